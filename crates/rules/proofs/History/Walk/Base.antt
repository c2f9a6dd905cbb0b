-- How the walk makes a `Moved`: of a question, of a refusal, and of what a rule changes.
-- Assumes nothing.
use Rattle.std.proofs.Common.{◌≡◌, refl, sym, ◌∙◌, Bool, true, false, ℕ, ◌<◌, eqb, ℤ, pos, set, get_or-set_same, get_or-set_other, rules}
use Rattle.std.proofs.lemmas.Bool.{not-true}
use Rattle.rules.specs.Choice.{pick, same}
use Rattle.rules.specs.Record.{fresh_party, is_opened, party, live, with_party, ruled, valued, ask}
use Rattle.rules.specs.Rights.{SameRights}
use Rattle.rules.specs.Sound.{choices_good}
use Rattle.rules.specs.History.{same_code}
use Rattle.rules.specs.declared.Call.{Call}
use Rattle.rules.specs.declared.Monitor.{Monitor}
use Rattle.rules.specs.declared.Party.{Party}
use Rattle.rules.specs.declared.Ruled.{Ruled}
use Rattle.rules.proofs.Logic.{by_test, Nz, same_false, or_l, and_l, by_number}
use Rattle.rules.proofs.Fine.{look, Shape, Frame, Fine}
use Rattle.rules.proofs.Parties.{party_frame, Marks, plain, marked}
use Rattle.rules.proofs.History.Tells.{Tell, nothing}
use Rattle.rules.proofs.History.Moves.{Idle, Begins, Makes, Kept, Move, quiet}
use Rattle.rules.proofs.History.Left.{like_refl}
use Rattle.rules.proofs.History.Walk.Moved.{event_of, time_after, Stays, Own, Moved, keeps}
use Rattle.rules.proofs.History.Walk.Says.{is_past, is_silent, is_quiet, is_plain, is_timed, Says, says_quiet, says_accepted}
use Rattle.rules.proofs.History.Walk.Says.{says_valueless, tells_plain, time_refused, time_kept}

-- the move of the call c from the record m to the record m'
abbrev pub MoveTo : Monitor → Call → Monitor → Tell → Type 0
MoveTo m c m' t = Move c c.party m.lastlink m.lasttx (λ q. party m q) (λ d. look d (live m))
    m'.lastlink m'.lasttx (λ q. party m' q) (λ d. look d (live m')) t

abbrev pub KeptTo : Monitor → Call → Monitor → Type 0
KeptTo m c m' = Kept c c.party m.lastlink m.lasttx (λ q. party m q) (λ d. look d (live m))
    m'.lastlink m'.lasttx (λ q. party m' q) (λ d. look d (live m'))

abbrev pub IdleTo : Monitor → Monitor → Type 0
IdleTo m m' = Idle (λ q. party m q) (λ d. look d (live m)) (λ q. party m' q) (λ d. look d (live m'))

abbrev pub BeginsTo : Monitor → Monitor → ℕ → ℕ → Type 0
BeginsTo m m' p t = Begins (λ q. party m q) (λ d. look d (live m)) (λ q. party m' q) (λ d. look d (live m')) p t

abbrev pub MakesTo : Monitor → Monitor → ℕ → ℕ → ℕ → Type 0
MakesTo m m' p d x = Makes (λ q. party m q) (λ e. look e (live m)) (λ q. party m' q) (λ e. look e (live m')) p d x

-- an answer on a link: with an event and a token, and no value
abbrev pub replied : Monitor → ℤ → ℕ → ℕ → Ruled
replied m code event token = record { monitor = m; code = code; value = 0; event = event; token = token; service = 0 }

-- ---- questions: `ask m question code rest`
pub ask_moved : {m : Monitor} {c : Call} {question : Bool} {code : ℤ} {rest : Ruled}
    → (question ≡ true → Moved m c rest) → (question ≡ false → Moved m c (ruled m code)) → Moved m c (ask m question code rest)
ask_moved f g = by_test (Moved _ _) f g

-- a choice in a rule that is no question
pub pick_moved : {m : Monitor} {c : Call} {b : Bool} {x y : Ruled} → (b ≡ true → Moved m c x) → (b ≡ false → Moved m c y) → Moved m c (pick b x y)
pick_moved f g = by_test (Moved _ _) f g

-- ---- parties that stay
pub stays_self : (x : Party) → Stays x x
stays_self x = search rules

pub marks_stay : (x y : Party) → Marks x y → Stays x y
marks_stay x y (plain e) = rw e (stays_self x)
marks_stay x y (marked e) = rw e (record { opened' = refl; timeout' = refl; owned' = refl; deadline' = refl; served' = refl; reports' = refl })

-- ---- rights that stay
pub rights_self : (x : Party) → SameRights x x
rights_self x = (refl, refl)

pub marks_rights : (x y : Party) → Marks x y → SameRights x y
marks_rights x y (plain e) = rw e (rights_self x)
marks_rights x y (marked e) = rw e (refl, refl)

pub idle_parties : (m m' : Monitor) → m'.parties ≡ m.parties → IdleTo m m'
idle_parties m m' e = record { owned' = λ q. rw e; served' = λ q. rw e; mark' = λ q. rw e }

-- ---- every party stays, the caller too
pub moved_stays : (m : Monitor) (c : Call) (r : Ruled) (t : Tell) → Frame r.monitor → r.monitor.clock ≡ m.clock
    → ((q : ℕ) → Stays (party m q) (party r.monitor q)) → (eqb c.kind 23 ≡ false → (q : ℕ) → SameRights (party m q) (party r.monitor q))
    → ((q : ℕ) → choices_good (party m q) ≡ true → choices_good (party r.monitor q) ≡ true)
    → time_after (event_of c r) (party m c.party).timeout ≡ (party m c.party).timeout → Says c r t → MoveTo m c r.monitor t → Moved m c r
moved_stays m c r t f k st ri g h s v = record {
  frame = f;
  clock' = k;
  choices = g;
  others = λ q _. st q;
  rights = ri;
  own = keeps (st c.party).owned' (st c.party).deadline' (λ _. (st c.party).reports');
  timeout' = (st c.party).timeout' ∙ sym h;
  opened' = λ o n. rw (st c.party).opened' (o (rw (st c.party).owned' at n));
  past = s.past;
  valueless = s.valueless;
  tell = t;
  tells = s.tells;
  move = v;
}

-- rules on links alone
pub moved_links : (m : Monitor) (c : Call) (r : Ruled) (t : Tell) → Frame r.monitor → r.monitor.clock ≡ m.clock → r.monitor.parties ≡ m.parties
    → time_after (event_of c r) (party m c.party).timeout ≡ (party m c.party).timeout → Says c r t → MoveTo m c r.monitor t → Moved m c r
moved_links m c r t f k e h s v = moved_stays m c r t f k (λ q. rw e (stays_self (party m q))) (λ _ q. rw e (rights_self (party m q))) (λ q g. rw e g) h s v

-- ---- nothing changes
unmoved : {m : Monitor} {c : Call} (code : ℤ) → Fine m → time_after (event_of c (ruled m code)) (party m c.party).timeout ≡ (party m c.party).timeout
    → Says c (ruled m code) nothing → Moved m c (ruled m code)
unmoved {m} {c} code f h s = moved_links m c (ruled m code) nothing f.frame refl refl h s
    (quiet (record { link = refl; tx = refl }) (idle_parties m m refl) (λ _. like_refl refl) (λ _. refl))

-- with a code that no kind tells by
pub refused : {m : Monitor} {c : Call} (code : ℤ) → is_quiet code ≡ true → Fine m → Moved m c (ruled m code)
refused {m} {c} code h f = unmoved code f (time_refused c (ruled m code) _ (not-0 code h)) (says_quiet c (ruled m code) refl h)
  where
    not-0 : (z : ℤ) → is_quiet z ≡ true → same_code (pos 0) z ≡ false
    not-0 z q = or_l _ _ (not-true _ (and_l (is_silent z) _ q))

-- by a kind that tells nothing and sets no timeout, with any code past question 21
pub moved_still : {m : Monitor} {c : Call} (k : ℕ) → c.kind ≡ k → is_plain k ≡ true → is_timed k ≡ false → (code : ℤ) → is_past code ≡ true → Fine m
    → Moved m c (ruled m code)
moved_still {m} {c} k e h i code z f =
    unmoved code f (time_kept c (ruled m code) _ k e i) (says_valueless c (ruled m code) refl z (tells_plain c (ruled m code) k e h))

-- ---- party p's record becomes x, and no other party's changes
pub record OwnOnly (m m' : Monitor) (p : ℕ) (x : Party) : Type 0 where
  pub here : party m' p ≡ x
  pub there : (q : ℕ) → same q p ≡ false → party m' q ≡ party m q

pub own_set : (m m' : Monitor) (p : ℕ) (x : Party) → Shape m → p < 16 → m'.parties ≡ set m.parties p x → OwnOnly m m' p x
own_set m m' p x s b e = record {
  here = rw e (get_or-set_same m.parties p x fresh_party (rw s.parties16 b));
  there = λ q n. rw e (get_or-set_other m.parties p q x fresh_party (same_false q p n));
}

-- one change after the other
pub own_then : {m m₁ m₂ : Monitor} {p : ℕ} {x y : Party} → OwnOnly m m₁ p x → OwnOnly m₁ m₂ p y → OwnOnly m m₂ p y
own_then f g = record { here = g.here; there = λ q e. g.there q e ∙ f.there q e }

-- a fact of every party's record, from x's and the others'
pub own_all : {m m' : Monitor} {p : ℕ} {x : Party} (P : ℕ → Party → Type 0) → OwnOnly m m' p x → P p x → ((q : ℕ) → P q (party m q)) → (q : ℕ)
    → P q (party m' q)
own_all {m'} {p} P o h g = by_number p (λ q. P q (party m' q)) (rw o.here h) (λ q e. rw (o.there q e) (g q))

-- its transaction, its served link and its mark are as they were
own_idle : {m m' : Monitor} {p : ℕ} {x : Party} → OwnOnly m m' p x → x.owned ≡ (party m p).owned → x.served ≡ (party m p).served
    → x.rollbackonly ≡ (party m p).rollbackonly → IdleTo m m'
own_idle {m} o a b c = record {
  owned' = own_all (λ q y. y.owned ≡ (party m q).owned) o a (λ _. refl);
  served' = own_all (λ q y. y.served ≡ (party m q).served) o b (λ _. refl);
  mark' = own_all (λ q y. y.rollbackonly ≡ (party m q).rollbackonly) o c (λ _. refl);
}

pub moved_own : (m : Monitor) (c : Call) (r : Ruled) (x : Party) (t : Tell) → Frame r.monitor → r.monitor.clock ≡ m.clock
    → OwnOnly m r.monitor c.party x → SameRights (party m c.party) x
    → (choices_good (party m c.party) ≡ true → choices_good x ≡ true)
    → Own m c.kind (party m c.party) x
    → x.timeout ≡ time_after (event_of c r) (party m c.party).timeout
    → ((Nz (party m c.party).owned → is_opened (party m c.party) ≡ true) → Nz x.owned → is_opened x ≡ true)
    → Says c r t → MoveTo m c r.monitor t → Moved m c r
moved_own m c r x t f k o ri g w i n s v = record {
  frame = f;
  clock' = k;
  choices = own_all (λ q y. choices_good (party m q) ≡ true → choices_good y ≡ true) o g (λ _ h. h);
  others = λ q e. rw (o.there q e) (stays_self (party m q));
  rights = λ _. own_all (λ q y. SameRights (party m q) y) o ri (λ q. rights_self (party m q));
  own = rw o.here w;
  timeout' = rw o.here i;
  opened' = λ a b. rw o.here (n a (rw o.here at b));
  past = s.past;
  valueless = s.valueless;
  tell = t;
  tells = s.tells;
  move = v;
}

-- ---- a rule of a kind that tells nothing changes the caller's record, in fields that count neither for links nor for transactions
pub record Quietly (m : Monitor) (c : Call) (v : ℕ) (x : Party) : Type 0 where
  pub good : choices_good (party m c.party) ≡ true → choices_good x ≡ true
  pub owned' : x.owned ≡ (party m c.party).owned
  pub deadline' : x.deadline ≡ (party m c.party).deadline
  pub mark' : x.rollbackonly ≡ (party m c.party).rollbackonly
  pub served' : x.served ≡ (party m c.party).served
  pub reports' : eqb c.kind 22 ≡ false → x.reports ≡ (party m c.party).reports
  pub rights' : SameRights (party m c.party) x
  pub time' : x.timeout ≡ time_after (event_of c (valued (with_party m c.party x) v)) (party m c.party).timeout
  pub opened' : (Nz (party m c.party).owned → is_opened (party m c.party) ≡ true) → Nz x.owned → is_opened x ≡ true

pub moved_quiet : (m : Monitor) (c : Call) (v : ℕ) (x : Party) (k : ℕ) → Fine m → c.party < 16 → c.kind ≡ k → is_plain k ≡ true → Quietly m c v x
    → Moved m c (valued (with_party m c.party x) v)
moved_quiet m c v x k f b e h w =
    let r = valued (with_party m c.party x) v in
    let o : OwnOnly m (with_party m c.party x) c.party x = own_set m (with_party m c.party x) c.party x f.frame.shape b refl in
    moved_own m c r x nothing (party_frame m f.frame.shape c.party b x f.frame) refl o w.rights'
    w.good (keeps w.owned' w.deadline' w.reports') w.time' w.opened' (says_accepted c r refl (tells_plain c r k e h))
    (quiet (record { link = refl; tx = refl }) (own_idle o w.owned' w.served' w.mark') (λ _. like_refl refl) (λ _. refl))

-- ---- the same of party i, the caller or another, that stays and keeps its mark
pub moved_party : (m : Monitor) (c : Call) (v i : ℕ) (x : Party) (k : ℕ) → Fine m → i < 16 → c.kind ≡ k → is_plain k ≡ true → is_timed k ≡ false
    → Stays (party m i) x → (eqb c.kind 23 ≡ false → SameRights (party m i) x) → x.rollbackonly ≡ (party m i).rollbackonly
    → (choices_good (party m i) ≡ true → choices_good x ≡ true)
    → Moved m c (valued (with_party m i x) v)
moved_party m c v i x k f b e h u st ri mk g =
    let r = valued (with_party m i x) v in
    let o : OwnOnly m (with_party m i x) i x = own_set m (with_party m i x) i x f.frame.shape b refl in
    moved_stays m c r nothing (party_frame m f.frame.shape i b x f.frame) refl
    (own_all (λ q y. Stays (party m q) y) o st (λ q. stays_self (party m q)))
    (λ n. own_all (λ q y. SameRights (party m q) y) o (ri n) (λ q. rights_self (party m q)))
    (own_all (λ q y. choices_good (party m q) ≡ true → choices_good y ≡ true) o g (λ _ y. y))
    (time_kept c r _ k e u) (says_accepted c r refl (tells_plain c r k e h))
    (quiet (record { link = refl; tx = refl }) (own_idle o st.owned' st.served' mk) (λ _. like_refl refl) (λ _. refl))
