-- A fetch of whichever reply takes the caller's lowest-numbered one as a fetch by its number does.
-- Assumes nothing.
use Rattle.std.proofs.Common.{◌≡◌, refl, ap, sym, subst, ◌∙◌, List, [], ◌∷◌, Bool, true, false}
use Rattle.std.proofs.Common.{not, ℕ, ◌≤◌, ◌<◌, arith, leb, length, get_or, ltb-true, lt-ltb}
use Rattle.std.proofs.lemmas.Bool.{and_from, not-true}
use Rattle.rules.specs.Choice.{pick, same}
use Rattle.rules.specs.Lists.{first_of, any_of}
use Rattle.rules.specs.Record.{fresh_link, is_returned, live, link_of, own_end}
use Rattle.rules.specs.Transaction.{expired}
use Rattle.rules.specs.Replies.{request_end, outcome_code, fetched, fetched_any, fetch_one, expired_end, replied_end, next_reply, fetch_any, fetch_of}
use Rattle.rules.specs.Sound.{sound}
use Rattle.rules.specs.Step.{rule_of, later_of, advanced, answered_to, turned_down, call_of, step_of}
use Rattle.rules.specs.AnyReply.{is_reply, revalued, TookAny}
use Rattle.rules.specs.declared.Call.{Call}
use Rattle.rules.specs.declared.Link.{Link}
use Rattle.rules.specs.declared.Monitor.{Monitor}
use Rattle.rules.specs.declared.Ruled.{Ruled}
use Rattle.rules.specs.declared.Stepped.{Stepped}
use Rattle.rules.proofs.Logic.{by_test, test, not_both, pick_true, pick_false, same_true, and_l, and_r}
use Rattle.rules.proofs.Fine.{no_link, look, Between, Shape, Frame}
use Rattle.rules.proofs.Looks.{look_there, look_cases, link_of_look, look_link_of, any_none, any_some, any_one}
use Rattle.rules.proofs.Changes.{live_length, first_fits, first_look}
use Rattle.rules.proofs.Sound.{sound_fine, clock_fine}
use Rattle.rules.proofs.History.Walk.Replies.{request_end_none, replied_end_lem, replied_returned}

-- ---- the first of a list with rising numbers that passes a test is the lowest that does
look_not_below : (f : Link → Bool) → f no_link ≡ false → (lo hi d : ℕ) (ls : List Link) → Between lo ls hi → f (look d ls) ≡ true → lo < d
look_not_below f z lo hi d ls h e = look_cases d ls (λ a. not_both e (rw a z)) (λ a. let r = look_there f z lo hi d ls h e in omega arith)

first_lowest : (f : Link → Bool) → f no_link ≡ false → (lo hi d : ℕ) (ls : List Link) → Between lo ls hi → f (look d ls) ≡ true
    → (get_or ls (first_of f ls) fresh_link).number ≤ d
unfolding look first_of pick
first_lowest f z lo hi d [] h e = not_both e z
first_lowest f z lo hi d (x ∷ xs) h e = test (same x.number d)
    (λ q. let r = same_true _ _ q in test (f x) (λ y. rw y (omega arith)) (λ n. not_both (rw q at e) n))
    (λ q. let t = rw q at e in test (f x)
    (λ y. rw y (let r = look_not_below f z x.number hi d xs h.1 t in omega arith))
    (λ n. rw n (first_lowest f z x.number hi d xs h.1 t)))

-- ---- the link that is taken
replied_none : (p : ℕ) → replied_end p no_link ≡ false
unfolding replied_end request_end own_end no_link
replied_none p = refl

replied_fresh : (p : ℕ) → replied_end p fresh_link ≡ false
unfolding replied_end request_end own_end
replied_fresh p = refl

expired_none : (m : Monitor) (p : ℕ) → expired_end m p no_link ≡ false
unfolding expired_end request_end own_end no_link
expired_none m p = refl

replied : (p : ℕ) (l : Link) → request_end p l ≡ true → is_returned l ≡ true → replied_end p l ≡ true
unfolding replied_end
replied p l o r = and_from _ _ o r

-- an open end of a party none of whose ends is late
timely : (m : Monitor) (p : ℕ) (l : Link) → expired_end m p l ≡ false → request_end p l ≡ true → not (expired m l.tx) ≡ true
unfolding expired_end
timely m p l n e = ap not (rw e at n)

-- What a fetch of whichever reply that gives r takes: the link l with the number d.
record Takes (m : Monitor) (p : ℕ) (r : Ruled) : Type 0 where
  d : ℕ
  l : Link
  gives : r ≡ fetched m d l d
  by_number : fetch_of m p d 0 ≡ fetched m d l 0
  end : request_end p (link_of m d) ≡ true
  there : is_returned (link_of m d) ≡ true
  lowest : (e : ℕ) → request_end p (link_of m e) ≡ true → is_returned (link_of m e) ≡ true → d ≤ e

module _ (m : Monitor) (fr : Frame m) (p : ℕ) where
  any_takes : any_of (expired_end m p) (live m) ≡ false → next_reply m p < m.count → Takes m p (fetched_any m (get_or (live m) (next_reply m p) fresh_link))
  unfolding fetch_of fetch_one
  any_takes none room =
      let x = get_or (live m) (next_reply m p) fresh_link in
      let f = first_fits m fr (replied_end p) room in
      let at = first_look m fr (replied_end p) room in
      let is = look_link_of m (replied_end p) (replied_none p) x.number (rw at f) ∙ at in
      let late = rw at at (any_none (expired_end m p) (expired_none m p) (live m) none x.number) in
      record {
        d = x.number;
        l = x;
        gives = refl;
        by_number = pick_true _ _ _ refl ∙ pick_false _ _ _ refl ∙ rw is
            (pick_true _ _ _ (replied_end_lem p x f) ∙ pick_true _ _ _ (timely m p x late (replied_end_lem p x f)) ∙ pick_true _ _ _ (replied_returned p x f));
        end = rw is (replied_end_lem p x f);
        there = rw is (replied_returned p x f);
        lowest = λ e o r. let t = replied p (link_of m e) o r in
            first_lowest (replied_end p) (replied_none p) 0 m.lastlink e (live m) fr.rising (rw (link_of_look m (replied_end p) (replied_fresh p) e t) at t);
      }

  fetch_takes : (a : ℕ) → is_reply (fetch_of m p a 1).code ≡ true → Takes m p (fetch_of m p a 1)
  unfolding fetch_of fetch_any is_reply
  fetch_takes a = by_test Taking
      (λ _. by_test Taking (λ _. by_test Taking (λ _. by_test Taking (λ n. by_test Taking
      (λ h _. any_takes (not-true _ n) (ltb-true _ _ h))
      (λ _ e. not_both e refl))
      (λ _ e. not_both e refl))
      (λ _ e. not_both e refl))
      (λ n. not_both refl n))
      (λ _ e. not_both e refl)
    where
      Taking : Ruled → Type 0
      Taking r = is_reply r.code ≡ true → Takes m p r

-- ---- where such a request is there, and none of an expired transaction, it is taken
first_in : (f : Link → Bool) → f no_link ≡ false → (d : ℕ) (ls : List Link) → f (look d ls) ≡ true → first_of f ls < length ls
unfolding look first_of pick
first_in f z d [] e = not_both e z
first_in f z d (x ∷ xs) e = test (f x)
    (λ y. rw y (omega arith))
    (λ n. rw n (test (same x.number d) (λ q. not_both (rw q at e) n) (λ q. let r = first_in f z d xs (rw q at e) in omega arith)))

reply_code : (o : ℕ) → is_reply (outcome_code o) ≡ true
unfolding outcome_code is_reply
reply_code o = by_test (λ z. is_reply z ≡ true) (λ _. refl) (λ _. by_test (λ z. is_reply z ≡ true) (λ _. refl) (λ _. refl))

-- no open request end of party p's is of an expired transaction
abbrev Unexpired : Monitor → ℕ → Type 0
Unexpired m p = (e : ℕ) → request_end p (link_of m e) ≡ true → expired m (link_of m e).tx ≡ false

expired_end_lem : (m : Monitor) (p : ℕ) (l : Link) → expired_end m p l ≡ true → request_end p l ≡ true
unfolding expired_end
expired_end_lem m p l e = and_l _ _ e

expired_late : (m : Monitor) (p : ℕ) (l : Link) → expired_end m p l ≡ true → expired m l.tx ≡ true
unfolding expired_end
expired_late m p l e = and_r (request_end p l) _ e

module _ (m : Monitor) (fr : Frame m) (p : ℕ) where
  none_expired : Unexpired m p → not (any_of (expired_end m p) (live m)) ≡ true
  none_expired n = test (any_of (expired_end m p) (live m))
      (λ y. let s = any_some (expired_end m p) 0 m.lastlink (live m) fr.rising y in
      let t : expired_end m p (link_of m s.0) ≡ true = rw (look_link_of m (expired_end m p) (expired_none m p) s.0 s.1) s.1 in
      not_both (expired_late m p _ t) (n s.0 (expired_end_lem m p _ t)))
      (λ y. rw y)

  reply_given : (a d : ℕ) → replied_end p (link_of m d) ≡ true → Unexpired m p → is_reply (fetch_of m p a 1).code ≡ true
  unfolding fetch_of fetch_any fetched
  reply_given a d r n =
      let e = rw (link_of_look m (replied_end p) (replied_fresh p) d r) at r in
      let some = any_one (request_end p) (request_end_none p) d (live m) (replied_end_lem p _ e) in
      let room : next_reply m p < m.count = rw (live_length m fr) at (first_in (replied_end p) (replied_none p) d (live m) e) in
      subst (λ (x : Ruled). is_reply x.code ≡ true)
      (sym (pick_true _ _ _ refl ∙ pick_true _ _ _ refl ∙ pick_true _ _ _ some ∙ pick_true _ _ _ (none_expired n) ∙ pick_true _ _ _ (lt-ltb _ _ room)))
      (reply_code _)

-- ---- one call
module _ (m : Monitor) (c : Call) (k : c.kind ≡ 15) where
  fetch_step : (a b : ℕ) → sound m ≡ true → leb c.party 15 ≡ true
      → step_of m (record c { a = a; b = b })
      ≡ answered_to (fetch_of (advanced m c.clock) c.party a b) c.party
  unfolding step_of call_of rule_of pick
  fetch_step a b s p = rw (s, k, p)

  took : (r : Ruled) → Takes (advanced m c.clock) c.party r → sound m ≡ true → leb c.party 15 ≡ true → TookAny m c (answered_to r c.party)
  unfolding answered_to link_of fetched
  took r t s p = rw t.gives (record {
    end = t.end;
    there = t.there;
    lowest = t.lowest;
    alike = ap (λ (x : Stepped). revalued x t.d) (sym (fetch_step t.d 0 s p ∙ ap (λ (x : Ruled). answered_to x c.party) t.by_number));
  })

  -- no reply comes before the kind's questions
  refuses_record : sound m ≡ false → is_reply (step_of m c).answer.code ≡ false
  unfolding step_of turned_down pick is_reply
  refuses_record n = rw n

  refuses_party : sound m ≡ true → leb c.party 15 ≡ false → is_reply (step_of m c).answer.code ≡ false
  unfolding step_of call_of turned_down pick is_reply
  refuses_party s n = rw (s, k, n)

-- with b = 1 and code 0, 30 or 31
pub any_reply_law : (m : Monitor) → Shape m → (c : Call) → c.kind ≡ 15 → c.b ≡ 1 → is_reply (step_of m c).answer.code ≡ true → TookAny m c (step_of m c)
unfolding answered_to
any_reply_law m sh c k o e = test (sound m)
    (λ s. test (leb c.party 15)
    (λ p. let m₀ = advanced m c.clock in
    let is = fetch_step m c k c.a c.b s p ∙ ap (λ (b : ℕ). answered_to (fetch_of m₀ c.party c.a b) c.party) o in
    let fine = clock_fine m (later_of m.clock c.clock) (sound_fine m sh s) in
    rw is (took m c k _ (fetch_takes m₀ fine.frame c.party c.a (rw is at e)) s p))
    (λ n. not_both e (refuses_party m c k s n)))
    (λ n. not_both e (refuses_record m c k n))

-- and it is so answered where such a request is there, and no such end is of a transaction that has expired at the raised clock
pub any_reply_there : (m : Monitor) → Shape m → (c : Call) → c.kind ≡ 15 → c.b ≡ 1 → sound m ≡ true → leb c.party 15 ≡ true
    → ((e : ℕ) → request_end c.party (link_of m e) ≡ true → expired (advanced m c.clock) (link_of m e).tx ≡ false)
    → (d : ℕ) → request_end c.party (link_of m d) ≡ true → is_returned (link_of m d) ≡ true → is_reply (step_of m c).answer.code ≡ true
unfolding answered_to link_of
any_reply_there m sh c k o s p n d w r =
    let m₀ = advanced m c.clock in
    let is = fetch_step m c k c.a c.b s p ∙ ap (λ (b : ℕ). answered_to (fetch_of m₀ c.party c.a b) c.party) o in
    let fine = clock_fine m (later_of m.clock c.clock) (sound_fine m sh s) in
    rw is (reply_given m₀ fine.frame c.party c.a d (replied c.party _ w r) n)
