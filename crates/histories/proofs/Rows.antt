-- A history as rows, each a call and its answer; how a row is altered; and which rule of the statement that breaks.
-- Assumes nothing.
use Rattle.std.proofs.Common.{List, [], ◌∷◌, ◌++◌, Bool, true, not, ◌&&◌, ℕ, zero, suc, ℤ, pos, set, take, drop}
use Rattle.rules.specs.History.{Event, sender_rule, commit_rule, alone_rule, then_list}

-- six numbers of a call and six places of its answer
pub record Row : Type 0 where
  pub numbers : List ℕ
  pub places : List ℤ

-- clock, party, kind, a, b, c; code, value, event, token, service, T
abbrev pub row : ℕ → ℕ → ℕ → ℕ → ℕ → ℕ → ℤ → ℕ → ℕ → ℕ → ℕ → ℕ → Row
row clock party kind a b c code value event token service tx = record {
  numbers = clock ∷ party ∷ kind ∷ a ∷ b ∷ c ∷ [];
  places = code ∷ pos value ∷ pos event ∷ pos token ∷ pos service ∷ pos tx ∷ [];
}

abbrev pub numbers_of : List Row → List ℕ
numbers_of [] = []
numbers_of (r ∷ rs) = r.numbers ++ numbers_of rs

abbrev pub places_of : List Row → List ℤ
places_of [] = []
places_of (r ∷ rs) = r.places ++ places_of rs

-- the history h, and then the rows as a lent list and its answers
abbrev pub then_rows : List Row → List Event → List Event
then_rows rs h = then_list (numbers_of rs) (places_of rs) h

-- the history that the rows tell, in two lent lists: the first six calls, and the rest
abbrev pub events_of : List Row → List Event
events_of rs = then_rows (drop 6 rs) (then_rows (take 6 rs) [])

-- ---- one row is altered, counted from 0
abbrev pub at_row : (Row → Row) → ℕ → List Row → List Row
at_row f n [] = []
at_row f zero (r ∷ rs) = f r ∷ rs
at_row f (suc n) (r ∷ rs) = r ∷ at_row f n rs

-- its answer has another number at a place
abbrev pub placed : ℕ → ℕ → ℤ → List Row → List Row
placed n field z rs = at_row (λ r. record { numbers = r.numbers; places = set r.places field z }) n rs

abbrev pub coded : ℕ → ℤ → List Row → List Row
coded n code rs = placed n 0 code rs

abbrev pub showing : ℕ → ℕ → ℕ → List Row → List Row
showing n field v rs = placed n field (pos v) rs

-- its call has another number at a place
abbrev pub asked : ℕ → ℕ → ℕ → List Row → List Row
asked n field v rs = at_row (λ r. record { numbers = set r.numbers field v; places = r.places }) n rs

-- it is left out
abbrev pub without : ℕ → List Row → List Row
without n [] = []
without zero (r ∷ rs) = rs
without (suc n) (r ∷ rs) = r ∷ without n rs

-- from it on the answers have no places
abbrev pub unanswered : ℕ → List Row → List Row
unanswered n [] = []
unanswered zero (r ∷ rs) = record { numbers = r.numbers; places = [] } ∷ unanswered zero rs
unanswered (suc n) (r ∷ rs) = r ∷ unanswered n rs

-- places of an answer
abbrev pub value_field : ℕ
value_field = 1

abbrev pub event_field : ℕ
event_field = 2

abbrev pub tx_field : ℕ
tx_field = 5

-- places of a call
abbrev pub party_field : ℕ
party_field = 1

abbrev pub kind_field : ℕ
kind_field = 2

abbrev pub a_field : ℕ
a_field = 3

abbrev pub b_field : ℕ
b_field = 4

-- ---- the three rules of the statement
pub data Rule : Type 0 where
  sender commit alone : Rule

abbrev pub rule_at : Rule → List Event → Event → Bool
rule_at sender h e = sender_rule h e
rule_at commit h e = commit_rule h e
rule_at alone h e = alone_rule h e

-- the rule holds at every event
abbrev pub keeps : Rule → List Event → Bool
keeps r [] = true
keeps r (e ∷ h) = rule_at r h e && keeps r h

-- it is broken, and no other
abbrev pub only_breaks : Rule → List Event → Bool
only_breaks sender h = not (keeps sender h) && (keeps commit h && keeps alone h)
only_breaks commit h = not (keeps commit h) && (keeps sender h && keeps alone h)
only_breaks alone h = not (keeps alone h) && (keeps sender h && keeps commit h)

-- a spoilt history, and the rule that it breaks
pub record Spoilt : Type 0 where
  pub rule : Rule
  pub rows : List Row

abbrev pub breaks : Rule → List Row → Spoilt
breaks r rs = record { rule = r; rows = rs }

-- ---- kinds
abbrev pub tx_open : ℕ
tx_open = 1

abbrev pub tx_close : ℕ
tx_close = 2

abbrev pub tx_begin : ℕ
tx_begin = 3

abbrev pub tx_commit : ℕ
tx_commit = 4

abbrev pub tx_rollback : ℕ
tx_rollback = 5

abbrev pub tx_info : ℕ
tx_info = 6

abbrev pub tx_set_control : ℕ
tx_set_control = 8

abbrev pub tx_set_timeout : ℕ
tx_set_timeout = 9

abbrev pub tpadvertise : ℕ
tpadvertise = 10

abbrev pub tpacall : ℕ
tpacall = 12

abbrev pub tpconnect : ℕ
tpconnect = 13

abbrev pub dispatch : ℕ
dispatch = 14

abbrev pub tpgetrply : ℕ
tpgetrply = 15

abbrev pub tpcancel : ℕ
tpcancel = 16

abbrev pub tpsend : ℕ
tpsend = 17

abbrev pub tprecv : ℕ
tprecv = 18

abbrev pub tpdiscon : ℕ
tpdiscon = 19

abbrev pub tpreturn : ℕ
tpreturn = 20

abbrev pub terminate : ℕ
terminate = 21

abbrev pub report : ℕ
report = 22

abbrev pub set_rights : ℕ
set_rights = 23

-- a number that is no kind
abbrev pub no_kind : ℕ
no_kind = 4294967295
