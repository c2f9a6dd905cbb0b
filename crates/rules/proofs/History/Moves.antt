-- What a call can do to parties and links, as far as soundness and the history statement are concerned: the moves.
-- A record is seen here as two functions, P : party ↦ its record and L : number ↦ its link (no_link where there is none).
-- Assumes nothing.
use Rattle.std.proofs.Common.{◌≡◌, Bool, true, false, ◌||◌, ℕ, suc, eqb}
use Rattle.rules.specs.Choice.{same}
use Rattle.rules.specs.Record.{is_conversation, is_attached, is_waiting, is_working, is_ending, is_rollback_only, working}
use Rattle.rules.specs.Sound.{link_good}
use Rattle.rules.specs.declared.Call.{Call}
use Rattle.rules.specs.declared.Link.{Link}
use Rattle.rules.specs.declared.Party.{Party}
use Rattle.rules.proofs.Logic.{Nz}
use Rattle.rules.proofs.Fine.{no_link, tx_p}
use Rattle.rules.proofs.History.Tells.{Tell, nothing, sent, given, made, taken, finished, disconnected, left, can_start}

-- neither disconnected nor notified
abbrev pub is_whole : Link → Bool
is_whole l = eqb l.disconnected 0

-- ---- what may be left of a link: itself; nothing; itself with the originator's end closed; itself returned
-- alike in all that counts but the sender
pub record Like (l l' : Link) : Type 0 where
  pub number' : l'.number ≡ l.number
  pub kind' : l'.kind ≡ l.kind
  pub originator' : l'.originator ≡ l.originator
  pub attached' : l'.attached ≡ l.attached
  pub tx' : l'.tx ≡ l.tx
  pub state' : l'.state ≡ l.state
  pub server' : l'.server ≡ l.server
  pub outcome' : l'.outcome ≡ l.outcome
  pub whole' : is_whole l' ≡ is_whole l
  pub good' : link_good l ≡ true → link_good l' ≡ true

pub record Shut (l l' : Link) : Type 0 where
  pub number' : l'.number ≡ l.number
  pub kind' : l'.kind ≡ l.kind
  pub originator' : l'.originator ≡ l.originator
  pub closed' : is_attached l' ≡ false
  pub tx' : l'.tx ≡ l.tx
  pub state' : l'.state ≡ l.state
  pub server' : l'.server ≡ l.server
  pub outcome' : l'.outcome ≡ l.outcome
  pub sender' : l'.sender ≡ l.sender
  pub good' : link_good l ≡ true → link_good l' ≡ true

pub record Back (l l' : Link) : Type 0 where
  pub number' : l'.number ≡ l.number
  pub kind' : l'.kind ≡ l.kind
  pub originator' : l'.originator ≡ l.originator
  pub attached' : l'.attached ≡ l.attached
  pub tx' : l'.tx ≡ l.tx
  pub worked : is_working l ≡ true
  pub state' : l'.state ≡ 2
  pub server' : l'.server ≡ l.server
  pub ending' : is_ending l'.outcome ≡ true
  pub sender' : l'.sender ≡ l.sender
  pub whole' : is_whole l' ≡ is_whole l
  pub good' : link_good l ≡ true → link_good l' ≡ true

pub data Left (l l' : Link) : Type 0 where
  alike : Like l l' → l'.sender ≡ l.sender → Left l l'
  gone : l' ≡ no_link → Left l l'
  shut : Shut l l' → Left l l'
  back : Back l l' → Left l l'

-- party p's end of a link, by its side: 0 the originator's, 1 the server's
pub data End (l : Link) (p : ℕ) : ℕ → Type 0 where
  origin : l.originator ≡ p → End l p 0
  service : l.server ≡ p → is_waiting l ≡ false → End l p 1

-- what holds of every record that a list reaches, and not of every sound one; some moves rely on it
pub record Sane (P : ℕ → Party) (L : ℕ → Link) (p : ℕ) : Type 0 where
  pub alone : Nz (L (P p).served).tx → (P p).owned ≡ 0
  pub disconnected_shut : (d : ℕ) → is_whole (L d) ≡ false → is_attached (L d) ≡ false
  pub unique : (q r : ℕ) → Nz (P q).owned → (P q).owned ≡ (P r).owned → q ≡ r

module _ (P : ℕ → Party) (L : ℕ → Link) (P' : ℕ → Party) (L' : ℕ → Link) where
  -- no party's transaction, served link or mark changes
  pub record Idle : Type 0 where
    pub owned' : (q : ℕ) → (P' q).owned ≡ (P q).owned
    pub served' : (q : ℕ) → (P' q).served ≡ (P q).served
    pub mark' : (q : ℕ) → (P' q).rollbackonly ≡ (P q).rollbackonly

  -- links only lose, and who still serves one serves what it served, which still works
  pub record Loses : Type 0 where
    pub less : (e : ℕ) → Left (L e) (L' e)
    pub served' : (q : ℕ) → Nz (P' q).served → (P' q).served ≡ (P q).served
    pub stays : (q : ℕ) → Nz (P' q).served → is_working (L (P q).served) ≡ true → is_working (L' (P q).served) ≡ true

  -- a send by party p on d: its end is the sender's
  pub record Sends (p d : ℕ) : Type 0 where
    pub idle : Idle
    pub like : (e : ℕ) → Like (L e) (L' e)
    pub sender' : (e : ℕ) → (L' e).sender ≡ (L e).sender
    pub there : Nz (L d).number
    pub conversation : is_conversation (L d) ≡ true
    pub side : ℕ
    pub end : End (L d) p side
    pub sender : (L d).sender ≡ side

  -- SENDONLY is given to party p on d: its end becomes the sender's
  pub record Grants (p d : ℕ) : Type 0 where
    pub idle : Idle
    pub like : (e : ℕ) → Like (L e) (L' e)
    pub others : (e : ℕ) → same e d ≡ false → (L' e).sender ≡ (L e).sender
    pub there : Nz (L d).number
    pub conversation : is_conversation (L d) ≡ true
    pub side : ℕ
    pub end : End (L d) p side
    pub sender : (L' d).sender ≡ side

  -- link d, whose originator p has learnt its end, goes
  pub record Finishes (p d : ℕ) : Type 0 where
    pub idle : Idle
    pub there : Nz (L d).number
    pub originator : (L d).originator ≡ p
    pub rests : is_working (L d) ≡ false
    pub gone' : L' d ≡ no_link
    pub others : (e : ℕ) → same e d ≡ false → L' e ≡ L e

  -- an end of no transaction closes
  pub record Cancels (d : ℕ) : Type 0 where
    pub idle : Idle
    pub was : is_attached (L d) ≡ true
    pub there : Nz (L d).number
    pub no_tx : (L d).tx ≡ 0
    pub fade : Left (L d) (L' d)
    pub fade_works : is_working (L d) ≡ true → is_working (L' d) ≡ true
    pub others : (e : ℕ) → same e d ≡ false → L' e ≡ L e

  -- the originator disconnects link d
  pub record Disconnects (d : ℕ) : Type 0 where
    pub was : is_attached (L d) ≡ true
    pub there : Nz (L d).number
    pub fade : Left (L d) (L' d)
    pub fade_works : is_working (L d) ≡ true → is_working (L' d) ≡ true
    pub others : (e : ℕ) → same e d ≡ false → L' e ≡ L e
    pub owned' : (q : ℕ) → (P' q).owned ≡ (P q).owned
    pub served' : (q : ℕ) → (P' q).served ≡ (P q).served
    pub hit : ((q r : ℕ) → Nz (P q).owned → (P q).owned ≡ (P r).owned → q ≡ r) → (q : ℕ) → Nz (L d).tx → (P q).owned ≡ (L d).tx → is_rollback_only (P' q) ≡ true
    pub miss : (q : ℕ) → ((P q).owned ≡ (L d).tx → ⊥) → (P' q).rollbackonly ≡ (P q).rollbackonly
    pub unowned : (q : ℕ) → (P q).owned ≡ 0 → (P' q).rollbackonly ≡ (P q).rollbackonly

  -- party p leaves the link that it serves, if any, with its own links closed and its transaction ended
  pub record Leaves (p : ℕ) (bad : Bool) : Type 0 where
    pub less : (e : ℕ) → Left (L e) (L' e)
    pub bad_open : (e : ℕ) → Nz (P p).served → is_attached (L e) ≡ true → (L e).originator ≡ p → bad ≡ true
    -- p has nothing afterwards
    pub p_owned : (P' p).owned ≡ 0
    pub p_served : (P' p).served ≡ 0
    pub p_mark : (same (P p).owned 0 ≡ true → is_rollback_only (P p) ≡ false) → is_rollback_only (P' p) ≡ false
    pub p_open : (e : ℕ) → (L e).originator ≡ p → is_attached (L' e) ≡ false
    pub p_ended : (e : ℕ) → Nz (P p).owned → (L e).tx ≡ (P p).owned → is_attached (L' e) || is_waiting (L' e) ≡ false
    -- the others
    pub owned' : (q : ℕ) → same q p ≡ false → (P' q).owned ≡ (P q).owned
    pub served' : (q : ℕ) → same q p ≡ false → (P' q).served ≡ (P q).served
    pub grows : (q : ℕ) → same q p ≡ false → is_rollback_only (P q) ≡ true → is_rollback_only (P' q) ≡ true
    pub hit : (q : ℕ) → same q p ≡ false → bad ≡ true → (P q).owned ≡ (L (P p).served).tx → Nz (P q).owned → is_rollback_only (P' q) ≡ true
    pub miss : (q : ℕ) → same q p ≡ false → Nz (P q).owned → ((P q).owned ≡ (L (P p).served).tx → bad ≡ true → ⊥)
        → ((e : ℕ) → is_attached (L e) ≡ true → (L e).originator ≡ p → (L e).tx ≡ (P q).owned → ⊥) → (P' q).rollbackonly ≡ (P q).rollbackonly
    pub unowned : (q : ℕ) → same q p ≡ false → (P q).owned ≡ 0 → (P' q).rollbackonly ≡ (P q).rollbackonly
    -- the other links
    pub works' : (e : ℕ) → same e (P p).served ≡ false → is_working (L e) ≡ true → is_working (L' e) ≡ true
    pub spared : (e : ℕ) → same e (P p).served ≡ false → ((L e).originator ≡ p → ⊥) → ((L e).tx ≡ (P p).owned → Nz (P p).owned → ⊥)
        → is_attached (L e) ≡ true → is_attached (L' e) ≡ true
    pub itself : bad ≡ false → is_attached (L (P p).served) ≡ true → is_attached (L' (P p).served) ≡ true

  -- the transaction that party p owns ends
  pub record Ends (p : ℕ) : Type 0 where
    pub has : Nz (P p).owned
    pub p_owned : (P' p).owned ≡ 0
    pub p_mark : (P' p).rollbackonly ≡ 0
    pub served' : (q : ℕ) → (P' q).served ≡ (P q).served
    pub owned' : (q : ℕ) → same q p ≡ false → (P' q).owned ≡ (P q).owned
    pub mark' : (q : ℕ) → same q p ≡ false → (P' q).rollbackonly ≡ (P q).rollbackonly
    pub less : (e : ℕ) → Left (L e) (L' e)
    pub works' : (e : ℕ) → is_working (L e) ≡ true → is_working (L' e) ≡ true
    pub swept : (e : ℕ) → (is_whole (L e) ≡ false → is_attached (L e) ≡ false) → (L e).tx ≡ (P p).owned → is_attached (L' e) || is_waiting (L' e) ≡ false
    pub spared : (e : ℕ) → ((L e).tx ≡ (P p).owned → ⊥) → L' e ≡ L e

  -- party p begins the transaction t
  pub record Begins (p t : ℕ) : Type 0 where
    pub links' : (e : ℕ) → L' e ≡ L e
    pub p_owned : (P' p).owned ≡ t
    pub p_mark : (P' p).rollbackonly ≡ (P p).rollbackonly
    pub served' : (q : ℕ) → (P' q).served ≡ (P q).served
    pub owned' : (q : ℕ) → same q p ≡ false → (P' q).owned ≡ (P q).owned
    pub mark' : (q : ℕ) → same q p ≡ false → (P' q).rollbackonly ≡ (P q).rollbackonly

  -- party p makes the link d of the transaction x: its own one, or none
  pub record Makes (p d x : ℕ) : Type 0 where
    pub idle : Idle
    pub number : (L' d).number ≡ d
    pub originator : (L' d).originator ≡ p
    pub tx : (L' d).tx ≡ x
    pub waits : is_waiting (L' d) ≡ true
    pub whole : is_whole (L' d) ≡ true
    pub good : link_good (L' d) ≡ true
    pub attached : Nz x → is_attached (L' d) ≡ true
    pub own : Nz x → x ≡ tx_p P L p
    pub live : Nz x → (q : ℕ) × ((P q).owned ≡ x)
    pub others : (e : ℕ) → same e d ≡ false → L' e ≡ L e

  -- party p, with no transaction and no open end, takes the waiting link d
  pub record Takes (p d : ℕ) : Type 0 where
    pub there : Nz (L d).number
    pub number : (L d).number ≡ d
    pub waits : is_waiting (L d) ≡ true
    pub works : L' d ≡ working (L d) p
    pub others : (e : ℕ) → same e d ≡ false → L' e ≡ L e
    pub free : (P p).owned ≡ 0
    pub served_none : (P p).served ≡ 0
    pub no_ends : (e : ℕ) → is_attached (L e) ≡ true → (L e).originator ≡ p → ⊥
    pub p_served : (P' p).served ≡ d
    pub served' : (q : ℕ) → same q p ≡ false → (P' q).served ≡ (P q).served
    pub owned' : (q : ℕ) → (P' q).owned ≡ (P q).owned
    pub mark' : (q : ℕ) → (P' q).rollbackonly ≡ (P q).rollbackonly

-- the moves of the call c, of party p, from last numbers n and m to n' and m', by what the call and its answer tell
module _ (c : Call) (p n m : ℕ) (P : ℕ → Party) (L : ℕ → Link) (n' m' : ℕ) (P' : ℕ → Party) (L' : ℕ → Link) where
  -- the last numbers stay
  pub record Kept : Type 0 where
    pub link : n' ≡ n
    pub tx : m' ≡ m

  pub data Move : Tell → Type 0 where
    -- nothing that counts changes
    quiet : Kept → Idle P L P' L' → ((e : ℕ) → Like (L e) (L' e)) → ((e : ℕ) → (L' e).sender ≡ (L e).sender) → Move nothing
    sends : Kept → (d : ℕ) → Sends P L P' L' p d → Move (sent d)
    grants : Kept → (d : ℕ) → Grants P L P' L' p d → Move (given d)
    finishes : Kept → (d : ℕ) → Finishes P L P' L' p d → Move (finished d)
    cancels : Kept → (d : ℕ) → Cancels P L P' L' d → Move nothing
    disconnects : Kept → (d : ℕ) → Disconnects P L P' L' d → Move (disconnected d)
    leaves : Kept → (bad : Bool) → Loses P L P' L' → (Sane P L p → Leaves P L P' L' p bad) → Move (left bad)
    ends : Kept → Ends P L P' L' p → Move nothing
    -- from no transaction
    begins : n' ≡ n → m' ≡ suc m → can_start c ≡ true → tx_p P L p ≡ 0 → Begins P L P' L' p (suc m) → Move nothing
    -- the owned transaction ends and a new one begins
    renews : n' ≡ n → m' ≡ suc m → can_start c ≡ true → (Pₑ : ℕ → Party) (Lₑ : ℕ → Link) → Ends P L Pₑ Lₑ p → Begins Pₑ Lₑ P' L' p (suc m) → Move nothing
    makes : n' ≡ suc n → m' ≡ m → (x : ℕ) → Nz x → Makes P L P' L' p (suc n) x → Move (made (suc n))
    makes_free : n' ≡ suc n → m' ≡ m → Makes P L P' L' p (suc n) 0 → Move nothing
    takes : Kept → (d : ℕ) → Takes P L P' L' p d → Move (taken d)
