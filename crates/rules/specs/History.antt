-- The history statement of document 01 (demand 3): a claim about calls and answers, whatever answered them.
-- It names nothing of the rules. Each definition says one sentence of that section, which stands above it.
-- Assumes nothing.
use Rattle.std.specs.Prelude.{ℕ, zero, suc, ◌+◌, ◌/◌, ◌%◌, max, List, [], ◌∷◌, Bool, true, false, cond, not, ◌&&◌, ◌||◌, eqb, leb, ℤ, pos, negsuc, get_or, drop, length}
use Rattle.std.specs.Bool.{beq}
use Rattle.rules.specs.declared.Answer.{Answer}
use Rattle.rules.specs.declared.Call.{Call}

-- a call and its answer
pub record Event : Type 0 where
  pub call : Call
  pub answer : Answer

-- A history is a list of events, the latest first: in `e ∷ h`, h is what came before e.

-- is there an event that passes the test
unfoldable pub some : (Event → Bool) → List Event → Bool
some f [] = false
some f (e ∷ h) = f e || some f h

-- ---- one event
unfoldable pub of_kind : ℕ → Event → Bool
of_kind k e = eqb e.call.kind k

-- a call of party p's
unfoldable pub by : ℕ → Event → Bool
by p e = eqb e.call.party p

abbrev pub same_code : ℤ → ℤ → Bool
same_code (pos m) (pos n) = eqb m n
same_code (pos m) (negsuc n) = false
same_code (negsuc m) (pos n) = false
same_code (negsuc m) (negsuc n) = eqb m n

unfoldable pub answered_by : ℤ → Event → Bool
answered_by z e = same_code z e.answer.code

unfoldable pub with_value : ℕ → Event → Bool
with_value v e = eqb e.answer.value v

unfoldable pub with_event : ℕ → Event → Bool
with_event v e = eqb e.answer.event v

-- the codes of a call that is not past question 21
abbrev pub unheard : ℤ → Bool
unheard z = same_code (pos 19) z || (same_code (pos 20) z || same_code (pos 21) z)

-- past question 21: not refused by 19, 20 or 21
unfoldable pub past21 : Event → Bool
past21 e = not (unheard e.answer.code)

-- "Accepted is code 0."
unfoldable pub accepted : Event → Bool
accepted e = answered_by (pos 0) e

-- a reply was fetched: "answered 0, 30 or 31"
unfoldable pub replied : Event → Bool
replied e = answered_by (pos 0) e || (answered_by (pos 30) e || answered_by (pos 31) e)

-- "A 15, 17, 18 or 19 is on link a."; a fetch with b = 1, "answered 0, 30 or 31, is on the link that its value names,
-- whatever its a" (document 02, R-1)
unfoldable pub link_on : Event → ℕ
link_on e = cond (of_kind 15 e && (eqb e.call.b 1 && replied e)) e.answer.value e.call.a

unfoldable pub on : ℕ → Event → Bool
on d e = eqb (link_on e) d

-- ---- the sender rule
-- "Sends are accepted 17s"
unfoldable pub is_send : Event → Bool
is_send e = of_kind 17 e && accepted e

-- "two on one link by different parties are from different ends"
unfoldable pub different_ends : Event → Event → Bool
different_ends x y = is_send x && (is_send y && (on (link_on y) x && not (by y.call.party x)))

-- "SENDONLY is given to a party by its 18 on that link, answered 29 with event 32."
unfoldable pub given_send_only : ℕ → ℕ → Event → Bool
given_send_only p d e = by p e && (of_kind 18 e && (on d e && (answered_by (pos 29) e && with_event 32 e)))

-- Between the send e and each earlier one from a different end, e's sender was given SENDONLY on that link:
-- `between` is what came between e and the rest of the history, which is gone through back to its first event.
unfoldable pub sends_apart : Event → List Event → List Event → Bool
sends_apart e between [] = true
sends_apart e between (x ∷ h) = (not (different_ends x e) || some (given_send_only e.call.party (link_on e)) between) && sends_apart e (x ∷ between) h

-- ---- transactions
-- its answer ends in t
unfoldable pub ends_in : ℕ → Event → Bool
ends_in t e = eqb e.answer.tx t

-- the history up to and with "the first call with an answer ending in T"; empty if there is none
unfoldable pub up_to_start : ℕ → List Event → List Event
up_to_start t [] = []
up_to_start t (e ∷ h) = cond (some (ends_in t) h) (up_to_start t h) (cond (ends_in t e) (e ∷ h) [])

-- is its latest call a 3, 4 or 5 of party p's
unfoldable pub started_by : ℕ → List Event → Bool
started_by p [] = false
started_by p (e ∷ h) = by p e && (of_kind 3 e || (of_kind 4 e || of_kind 5 e))

-- "T's owner is the party whose 3, 4 or 5 is the first call with an answer ending in T; that call is T's start."
unfoldable pub shown_owner : List Event → ℕ → ℕ → Bool
shown_owner h t p = started_by p (up_to_start t h)

-- what a party's "latest earlier answer past question 21 ends in", 0 if there is none
unfoldable pub latest_tx : List Event → ℕ → ℕ
latest_tx [] p = 0
latest_tx (e ∷ h) p = cond (by p e && past21 e) e.answer.tx (latest_tx h p)

-- the T of a commit by T's owner
abbrev pub tx_at : List Event → Event → ℕ
tx_at h e = latest_tx h e.call.party

-- "A commit by T's owner is that party's 4, itself past question 21, where its latest earlier answer past question 21
-- ends in T"; "T is not 0"
unfoldable pub is_owners_commit : List Event → Event → Bool
is_owners_commit h e = of_kind 4 e && (past21 e && (not (eqb (tx_at h e) 0) && shown_owner h (tx_at h e) e.call.party))

-- "committed is code 0 or −100"
unfoldable pub committed : Event → Bool
committed e = answered_by (pos 0) e || answered_by (negsuc 99) e

-- ---- links of a transaction
unfoldable pub flag2 : ℕ → Bool
flag2 b = eqb (b / 2 % 2) 1

-- "an accepted 12 or 13 without flag 2 .. and its answer ends in T; that caller is its originator"
unfoldable pub makes : ℕ → Event → Bool
makes t e = (of_kind 12 e || of_kind 13 e) && (accepted e && (not (flag2 e.call.b) && ends_in t e))

-- "A link d is of T if an accepted 12 or 13 without flag 2 has value d and its answer ends in T"
unfoldable pub is_link_of : List Event → ℕ → ℕ → Bool
is_link_of h t d = some (λ e. makes t e && with_value d e) h

-- "A party serves d from its accepted 14 with value d until its next accepted 20 or 21.":
-- at the end of the history party p serves a link that passes the test
unfoldable pub serves : (ℕ → Bool) → List Event → ℕ → Bool
serves f [] p = false
serves f (e ∷ h) p =
    cond (by p e && (accepted e && (of_kind 20 e || of_kind 21 e))) false
    ((by p e && (accepted e && (of_kind 14 e && f e.answer.value))) || serves f h p)

-- ---- the reasons against a commit; each "reads the calls before that commit and their answers"
-- "A failed end: 20 or 21 with value 2 or 4 by a party that served a link of T up to it.": f is what is a link of T
unfoldable pub failed_end : (ℕ → Bool) → List Event → Bool
failed_end f [] = false
failed_end f (e ∷ h) =
    ((of_kind 20 e || of_kind 21 e) && ((with_value 2 e || with_value 4 e) && serves f h e.call.party)) || failed_end f h

-- "A disconnect: 19 with 0 on a link of T."
unfoldable pub disconnect : (ℕ → Bool) → List Event → Bool
disconnect f h = some (λ e. of_kind 19 e && (accepted e && f (link_on e))) h

-- "the greatest clock of calls past question 21"
unfoldable pub greatest_clock : List Event → ℕ
greatest_clock [] = 0
greatest_clock (e ∷ h) = cond (past21 e) (max (greatest_clock h) e.call.clock) (greatest_clock h)

-- "a of its last accepted 9 before that; 0 if there is none, or if an accepted 2 or 21 of its own came in between"
unfoldable pub shown_timeout : List Event → ℕ → ℕ
shown_timeout [] p = 0
shown_timeout (e ∷ h) p =
    cond (by p e && (accepted e && of_kind 9 e)) e.call.a
    (cond (by p e && (accepted e && (of_kind 2 e || of_kind 21 e))) 0
    (shown_timeout h p))

-- "the owner's timeout at T's start", of a history that ends with that start
unfoldable pub timeout_at_start : List Event → ℕ
timeout_at_start [] = 0
timeout_at_start (e ∷ h) = shown_timeout h e.call.party

-- when a deadline comes: a timeout, not 0, after a clock
unfoldable pub due : ℕ → ℕ → ℕ
due timeout clock = timeout + clock

-- "A deadline: the owner's timeout at T's start is not 0, and the greatest clock of calls past question 21, the commit's
-- too, is at least that timeout plus the greatest up to and with T's start."
unfoldable pub deadline_passed : List Event → List Event → Bool
deadline_passed start now = not (eqb (timeout_at_start start) 0) && leb (due (timeout_at_start start) (greatest_clock start)) (greatest_clock now)

-- a link d with the originator o is finished by a "15 on it answered 0, 30 or 31", or a "17 or 18 on it by its originator
-- answered 29 with event 2, 4 or 8"
unfoldable pub finishes : ℕ → ℕ → Event → Bool
finishes d o e =
    (of_kind 15 e && (on d e && replied e))
    || ((of_kind 17 e || of_kind 18 e) && (on d e && (by o e && (answered_by (pos 29) e && (with_event 2 e || (with_event 4 e || with_event 8 e))))))

-- "Unfinished: a link of T with no .."
unfoldable pub unfinished : List Event → ℕ → Bool
unfinished h t = some (λ e. makes t e && not (some (finishes e.answer.value e.call.party) h)) h

-- "standing is each manager's last accepted 22 with an answer ending in T": is it such a 22 of manager a's
unfoldable pub reports_on : ℕ → ℕ → Event → Bool
reports_on t a e = of_kind 22 e && (accepted e && (ends_in t e && eqb e.call.a a))

-- "veto, rolled back, mixed or hazard"
unfoldable pub opposes : Event → Bool
opposes e = eqb e.call.b 2 || (eqb e.call.b 4 || (eqb e.call.b 5 || eqb e.call.b 6))

-- is manager a's standing report one of these
unfoldable pub opposed : List Event → ℕ → ℕ → Bool
opposed [] t a = false
opposed (e ∷ h) t a = cond (reports_on t a e) (opposes e) (opposed h t a)

-- "Demand 3's committed now also needs no standing report of veto, rolled back, mixed or hazard": the managers are 0 to 3
unfoldable pub stands_against : List Event → ℕ → Bool
stands_against h t = opposed h t 0 || (opposed h t 1 || (opposed h t 2 || opposed h t 3))

-- "no failed service end, no disconnect, no passed deadline and no unfinished link of it", and no report that stands
-- against it: the reasons against the commit e of t, after h
unfoldable pub reason_against : List Event → Event → ℕ → Bool
reason_against h e t =
    failed_end (is_link_of h t) h
    || (disconnect (is_link_of h t) h || (deadline_passed (up_to_start t h) (e ∷ h) || (unfinished h t || stands_against h t)))

-- "At work in T: serves a link of T at the commit. Other parties are all but T's owner.":
-- does a caller but p serve a link of t
unfoldable pub others_at_work : List Event → ℕ → ℕ → Bool
others_at_work h t p = some (λ x. not (by p x) && serves (is_link_of h t) h x.call.party) h

-- ---- the statement
-- of the event e after the history h:
-- "Between any two accepted sends on one conversation from different ends, the later sender was given the SENDONLY event on it."
unfoldable pub sender_rule : List Event → Event → Bool
sender_rule h e = sends_apart e [] h

-- "Every commit by a transaction's owner was answered as committed exactly when the calls and answers up to it show no .."
unfoldable pub commit_rule : List Event → Event → Bool
commit_rule h e = not (is_owners_commit h e) || beq (committed e) (not (reason_against h e (tx_at h e)))

-- "And whenever one was so answered, no other party was then still at work in that transaction."
unfoldable pub alone_rule : List Event → Event → Bool
alone_rule h e = not (is_owners_commit h e && committed e) || not (others_at_work h (tx_at h e) e.call.party)

-- the three at every event
unfoldable pub holds : List Event → Bool
holds [] = true
holds (e ∷ h) = sender_rule h e && (commit_rule h e && (alone_rule h e && holds h))

-- ---- calls and answers as lists of numbers, six to each
unfoldable pub first_call : List ℕ → Call
first_call cs = record { clock = get_or cs 0 0; party = get_or cs 1 0; kind = get_or cs 2 0; a = get_or cs 3 0; b = get_or cs 4 0; c = get_or cs 5 0 }

abbrev pub unsigned : ℤ → ℕ
unsigned (pos n) = n
unsigned (negsuc n) = 0

unfoldable pub first_answer : List ℤ → Answer
first_answer out =
    record {
      code = get_or out 0 (pos 0);
      value = unsigned (get_or out 1 (pos 0));
      event = unsigned (get_or out 2 (pos 0));
      token = unsigned (get_or out 3 (pos 0));
      service = unsigned (get_or out 4 (pos 0));
      tx = unsigned (get_or out 5 (pos 0));
    }

-- the history h, and then n calls with their answers
unfoldable pub then_calls : ℕ → List ℕ → List ℤ → List Event → List Event
then_calls zero cs out h = h
then_calls (suc n) cs out h = then_calls n (drop 6 cs) (drop 6 out) (record { call = first_call cs; answer = first_answer out } ∷ h)

-- "a lent list counts as its calls"
unfoldable pub then_list : List ℕ → List ℤ → List Event → List Event
then_list cs out h = then_calls (length cs / 6) cs out h
