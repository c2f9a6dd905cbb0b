-- OSI TP's primitives for a request (document 003, section 13.6.2) as numbers: the three sequences, and what a list of numbers says.
-- Assumes nothing.
use Rattle.std.specs.Prelude.{◌≡◌, ℕ, Bool, true, not, ◌&&◌, ◌||◌, List, [], ◌∷◌, eqb, leb, ℤ, length, get_or}
use Rattle.rules.specs.Choice.{pick}
use Rattle.rules.specs.Codes.{sequence_done, no_such_sequence}
use Rattle.rules.specs.Services.{is_service}
use Rattle.wire.specs.declared.sequence.Request.{Request}

-- "The primitives are numbered 1 to 5 in the order of their first naming"
abbrev pub tp_begin_dialogue : ℕ
tp_begin_dialogue = 1

abbrev pub tp_deferred_end_dialogue : ℕ
tp_deferred_end_dialogue = 2

abbrev pub tp_data : ℕ
tp_data = 3

abbrev pub tp_grant_control : ℕ
tp_grant_control = 4

abbrev pub tp_end_dialogue : ℕ
tp_end_dialogue = 5

-- "With a reply wanted: TP-BEGIN-DIALOGUE, TP-DEFERRED-END-DIALOGUE if the link is of a transaction, TP-DATA, TP-GRANT-CONTROL."
-- "1 is followed by 1 if the link is of a transaction, else 0, and TP-DATA by service and token."
abbrev pub with_reply_in_tx : ℕ → ℕ → List ℕ
with_reply_in_tx service token = tp_begin_dialogue ∷ 1 ∷ tp_deferred_end_dialogue ∷ tp_data ∷ service ∷ token ∷ tp_grant_control ∷ []

abbrev pub with_reply : ℕ → ℕ → List ℕ
with_reply service token = tp_begin_dialogue ∷ 0 ∷ tp_data ∷ service ∷ token ∷ tp_grant_control ∷ []

-- "With none wanted: TP-BEGIN-DIALOGUE, TP-DATA, TP-END-DIALOGUE."
abbrev pub without_reply : ℕ → ℕ → List ℕ
without_reply service token = tp_begin_dialogue ∷ 0 ∷ tp_data ∷ service ∷ token ∷ tp_end_dialogue ∷ []

-- ---- a request's numbers
abbrev pub wants_reply : Request → Bool
wants_reply r = eqb r.reply 1

abbrev pub of_tx : Request → Bool
of_tx r = eqb r.tx 1

unfoldable pub sequence_of : Request → List ℕ
sequence_of r =
    pick (wants_reply r)
    (pick (of_tx r) (with_reply_in_tx r.service r.token) (with_reply r.service r.token))
    (without_reply r.service r.token)

-- These numbers are the request's, and its yes and no are those of a request that can be written.
pub record IsSequenceOf (r : Request) (values : List ℕ) : Type 0 where
  pub same : values ≡ sequence_of r
  pub flags : leb r.reply 1 && (leb r.tx 1 && (wants_reply r || not (of_tx r))) ≡ true

-- a field that says yes or no is 1 or 0
abbrev pub says_yes_or_no : ℕ → Bool
says_yes_or_no n = leb n 1

-- "Writing refuses other services, and no reply for a link of a transaction"
unfoldable pub is_writable : Request → Bool
is_writable r = is_service r.service && (says_yes_or_no r.reply && (says_yes_or_no r.tx && (wants_reply r || not (of_tx r))))

-- ---- what a list of numbers says
abbrev pub request : ℕ → ℕ → ℕ → ℕ → Request
request service token reply tx = record { service = service; token = token; reply = reply; tx = tx }

-- what reading tells: 0 and the request, or a refusal and zeros
pub record Read : Type 0 where
  pub code : ℤ
  pub request : Request

abbrev pub read_as : ℤ → Request → Read
read_as code r = record { code = code; request = r }

abbrev pub no_request : Request
no_request = request 0 0 0 0

abbrev pub read_done : Request → Read
read_done r = read_as sequence_done r

abbrev pub read_refused : ℤ → Read
read_refused code = read_as code no_request

-- number by number, as far as both go
unfoldable pub agree : List ℕ → List ℕ → Bool
agree [] ys = true
agree (x ∷ xs) [] = true
agree (x ∷ xs) (y ∷ ys) = eqb x y && agree xs ys

abbrev pub same_numbers : List ℕ → List ℕ → Bool
same_numbers xs ys = eqb (length xs) (length ys) && agree xs ys

-- are these the request's numbers, and is its service one of 1 to 64
unfoldable pub says : List ℕ → Request → Bool
says values r = is_service r.service && same_numbers values (sequence_of r)

-- The request that a test accepts, of the three whose sequences have service and token at places of these numbers; else 33.
unfoldable pub said_by : (ℕ → ℕ) → (Request → Bool) → Read
said_by at isSaid =
    let in_tx : Request = request (at 4) (at 5) 1 1 in
    let replied : Request = request (at 3) (at 4) 1 0 in
    let unreplied : Request = request (at 3) (at 4) 0 0 in
    pick (isSaid in_tx) (read_done in_tx)
    (pick (isSaid replied) (read_done replied)
    (pick (isSaid unreplied) (read_done unreplied)
    (read_refused no_such_sequence)))

-- "A reader accepts just these sequences, with a service of 1 to 64 and nothing after the end."
unfoldable pub meaning_of : List ℕ → Read
meaning_of values = said_by (λ i. get_or values i 0) (says values)
