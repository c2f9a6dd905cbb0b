-- Pieces are the whole: a file that is run in pieces gives the answers, the record and the code of the whole file, whichever way it is cut.
-- Assumes nothing.
use Rattle.std.proofs.Common.{ℕ, zero, suc, ◌+◌, ◌-◌, ◌*◌, ◌/◌, ◌≤◌, ◌<◌, ◌≡◌, refl, ap, sym, ◌∙◌, subst, ◌⊎◌, inl, ⊎_elim}
use Rattle.std.proofs.Common.{Bool, true, false, List, [], ◌∷◌, ◌++◌, append_assoc, append-nil, zero-add, add-zero, suc-add, arith}
use Rattle.std.proofs.Common.{eqb-true, eq-eqb, le-leb, eqb, leb, ℤ, pos, length, drop, get_or, length-append, length-drop, take_at, rules}
use Rattle.std.proofs.lemmas.Bool.{eqb-false}
use Rattle.std.proofs.Math.ListN.{get_or-append}
use Rattle.std.proofs.lemmas.List.{drop-append-le}
use Rattle.number.proofs.Reading.{below_or_not}
use Rattle.rules.specs.Choice.{pick}
use Rattle.rules.specs.Codes.{file_run, cut_short, unsound}
use Rattle.rules.specs.Sound.{sound}
use Rattle.rules.specs.Step.{call_of}
use Rattle.rules.specs.Run.{call_at, places_of, ran_of, answers_of}
use Rattle.rules.specs.declared.Monitor.{Monitor}
use Rattle.rules.proofs.Fine.{Shape}
use Rattle.rules.proofs.Kept.{SoundRecord, calls_sound_kept}
use Rattle.rules.proofs.Logic.{pick_true, pick_false, by_test, test, not_both}
use Rattle.monitor.specs.File.{CallReading, called, nothing, broken, read_call, Calls, no_calls, with_call, calls_from}
use Rattle.monitor.specs.File.{file_calls, code_at, Passed, passed, after_calls, piece_run, piece_of, file_of}
use Rattle.monitor.specs.Pieces.{said_by, left_by, is_refused, is_over, then_turns, last_turns, turns_of, joined, in_front, together, pieces_of, onto}
use Rattle.monitor.proofs.Calls.{call_none, call_after, call_within, calls_one, calls_nothing, calls_broken, calls_few}
use Rattle.monitor.proofs.Prefixes.{call_extends, call_shifts, code_shifts, calls_all, calls_split, calls_long, calls_end, call_breaks, nothing_none}

-- ---- calls run one after the other

module _ (xs ys : List ℕ) (h : 6 ≤ length xs) where
  front_call : call_at (xs ++ ys) ≡ call_at xs
  unfolding call_at
  front_call =
      let at : (k : ℕ) → k < 6 → get_or (xs ++ ys) k 0 ≡ get_or xs k 0 = λ k less. get_or-append xs ys 0 k (omega arith) in
      λ i. record {
        clock = at 0 (omega arith) i;
        party = at 1 (omega arith) i;
        kind = at 2 (omega arith) i;
        a = at 3 (omega arith) i;
        b = at 4 (omega arith) i;
        c = at 5 (omega arith) i;
      }

  front_rest : drop 6 (xs ++ ys) ≡ drop 6 xs ++ ys
  front_rest = drop-append-le 6 xs ys h

ran_append : (a b : ℕ) (m : Monitor) (xs ys : List ℕ) → length xs ≡ a * 6 → ran_of (a + b) m (xs ++ ys) ≡ ran_of b (ran_of a m xs) ys
unfolding ran_of
ran_append zero b m [] ys h = ap (λ (k : ℕ). ran_of k m ys) (zero-add b)
ran_append zero b m (x ∷ xs) ys h = absurd (omega arith)
ran_append (suc a) b m xs ys h =
    ap (λ (k : ℕ). ran_of k m (xs ++ ys)) (suc-add a b)
    ∙ (λ i. ran_of (a + b) (call_of m (front_call xs ys (omega arith) i)).monitor (front_rest xs ys (omega arith) i))
    ∙ ran_append a b (call_of m (call_at xs)).monitor (drop 6 xs) ys (omega (arith, length-drop 6 xs))

answers_append : (a b : ℕ) (m : Monitor) (xs ys : List ℕ) → length xs ≡ a * 6
    → answers_of (a + b) m (xs ++ ys) ≡ answers_of a m xs ++ answers_of b (ran_of a m xs) ys
unfolding ran_of answers_of
answers_append zero b m [] ys h = ap (λ (k : ℕ). answers_of k m ys) (zero-add b)
answers_append zero b m (x ∷ xs) ys h = absurd (omega arith)
answers_append (suc a) b m xs ys h =
    let s = call_of m (call_at xs) in
    ap (λ (k : ℕ). answers_of k m (xs ++ ys)) (suc-add a b)
    ∙ (λ i. let front = call_of m (front_call xs ys (omega arith) i) in
    places_of front.answer ++ answers_of (a + b) front.monitor (front_rest xs ys (omega arith) i))
    ∙ ap (λ (l : List ℤ). places_of s.answer ++ l) (answers_append a b s.monitor (drop 6 xs) ys (omega (arith, length-drop 6 xs)))
    ∙ sym (append_assoc (places_of s.answer) (answers_of a s.monitor (drop 6 xs)) (answers_of b (ran_of a s.monitor (drop 6 xs)) ys))

answers_long : (n : ℕ) (m : Monitor) (cs : List ℕ) → length (answers_of n m cs) ≡ n * 6
unfolding answers_of places_of
answers_long zero m cs = refl
answers_long (suc n) m cs = omega (arith, answers_long n (call_of m (call_at cs)).monitor (drop 6 cs))

-- ---- the whole file, and what a turn leaves of it

-- all whole calls of an input run on a sound record: their answers alone, and the code at their end
abbrev pub ran_whole : Monitor → List ℕ → Calls → Passed
ran_whole m input w =
    passed (ran_of w.count m w.numbers) (code_at true (read_call input w.next)) w.count w.next (answers_of w.count m w.numbers)

abbrev pub whole_run : Monitor → List ℕ → Passed
whole_run m input = ran_whole m input (file_calls input)

unfoldable pub whole_of : Monitor → List ℕ → Passed
whole_of m input = pick (sound m) (whole_run m input) (passed m unsound 0 0 [])

module _ (m : Monitor) (bytes more : List ℕ) (last : Bool) (out : List ℤ) where
  run : Passed
  run = piece_run m bytes last out

  w : Calls
  w = calls_from (length out / 6) bytes 0

  rest : List ℕ
  rest = drop w.next (bytes ++ more)

  said : said_by run ≡ answers_of w.count m w.numbers
  unfolding run w
  said =
      take_at (answers_of w.count m w.numbers) (drop (w.count * 6) out) (w.count * 6) (answers_long w.count m w.numbers)

  -- The whole is a turn and the whole of what it leaves.
  turn_then_rest : in_front run (whole_run run.monitor rest) ≡ whole_run m (bytes ++ more)
  unfolding run w rest
  turn_then_rest =
      let v : Calls = file_calls rest in
      let long = calls_long (length out / 6) bytes 0 in
      sym
      (ap (ran_whole m (bytes ++ more)) (calls_split (length out / 6) bytes more)
      ∙ λ i.
      passed (ran_append w.count v.count m w.numbers v.numbers long i)
      ((ap (code_at true) (call_shifts (bytes ++ more) w.next v.next) ∙ code_shifts true w.next (read_call rest v.next)) i)
      (w.count + v.count) (w.next + v.next)
      ((answers_append w.count v.count m w.numbers v.numbers long
      ∙ ap (λ (l : List ℤ). l ++ answers_of v.count (ran_of w.count m w.numbers) v.numbers) (sym said)) i))

-- where no call stands at the front of an input, nothing is run, and the code is that of what stands there
whole_none : (m : Monitor) (input : List ℕ) → file_calls input ≡ no_calls 0 → whole_run m input ≡ passed m (code_at true (read_call input 0)) 0 0 []
unfolding ran_of answers_of
whole_none m input e = ap (ran_whole m input) e

-- ---- the end

-- What a turn leaves, by what stands at its front. `more` comes after it, and nothing comes after the input's end.
module _ (m : Monitor) (left more : List ℕ) (last : Bool) (ended : last ≡ true → more ≡ []) where
  inside : (code : ℕ) → read_call left 0 ≡ broken code → 0 < length left
  inside code e =
      ⊎_elim (λ h. h) (λ h. let n = call_none left 0 h in cc) (below_or_not 0 (length left))

  broken_whole : (code : ℕ) → read_call (left ++ more) 0 ≡ broken code → whole_run m (left ++ more) ≡ passed m (code_at true (broken code)) 0 0 []
  broken_whole code e =
      whole_none m (left ++ more) (calls_broken (length (left ++ more)) (left ++ more) 0 code e)
      ∙ ap (λ (r : CallReading). passed m (code_at true r) 0 0 []) e

  -- where the file is over, the rest has no call, and its code is the turn's
  over_whole : (r : CallReading) → read_call left 0 ≡ r → is_over last (code_at last r) (length left) ≡ true
      → whole_run m (left ++ more) ≡ passed m (code_at last r) 0 0 []
  unfolding is_over is_refused code_at pick
  over_whole (called c next) e over =
      test last
      (λ l. let none : length left ≡ 0 = eqb-true (length left) 0 (sym (pick_true last (eqb (length left) 0) false l) ∙ over) in
      let n = call_none left 0 (omega arith) in
      cc)
      (λ l. not_both over (pick_false last (eqb (length left) 0) false l))
  over_whole nothing e over =
      test last
      (λ l. let none : left ++ more ≡ left = ap (λ (x : List ℕ). left ++ x) (ended l) ∙ append-nil left in
      let stands : read_call (left ++ more) 0 ≡ nothing = ap (λ (x : List ℕ). read_call x 0) none ∙ e in
      whole_none m (left ++ more) (calls_nothing (length (left ++ more)) (left ++ more) 0 stands)
      ∙ ap (λ (r : CallReading). passed m (code_at true r) 0 0 []) stands)
      (λ l. not_both over (pick_false last (eqb (length left) 0) false l))
  over_whole (broken code) e over =
      test (eqb code 17)
      (λ cut. test last
      (λ l. broken_whole code (ap (λ (x : List ℕ). read_call x 0) (ap (λ (x : List ℕ). left ++ x) (ended l) ∙ append-nil left) ∙ e)
      ∙ ap (λ (b : Bool). passed m (code_at b (broken code)) 0 0 []) (sym l))
      (λ l. not_both over
      (ap (λ (b : Bool). is_over last (pick b (pick last cut_short file_run) (pos code)) (length left)) cut ∙ ap (λ (b : Bool). is_over b (pick b cut_short file_run) (length left)) l)))
      (λ whole. broken_whole code (call_extends left more 0 (inside code e) (λ f. let same : code ≡ 17 = cc in eqb-false code 17 whole same) ∙ e)
      ∙ ap (λ (b : Bool). passed m (pick b cut_short (pos code)) 0 0 []) whole
      ∙ ap (λ (b : Bool). passed m (pick b (pick last cut_short file_run) (pos code)) 0 0 []) (sym whole))

-- A turn that is not the last takes some bytes, or leaves at most 30 of an input that has not ended.
module _ (m : Monitor) (bytes : List ℕ) (last : Bool) (out : List ℤ) (room : 6 ≤ length out) where
  GoesOn : Calls → Type 0
  GoesOn w = is_over last (code_at last (read_call bytes w.next)) (length (drop w.next bytes)) ≡ false

  Moves : Calls → Type 0
  Moves w = (length (drop w.next bytes) < length bytes) ⊎ ((last ≡ false) × (length (drop w.next bytes) ≤ 30))

  -- no call stands at the front: nothing is taken
  stays : (r : CallReading) → read_call bytes 0 ≡ r → (w : Calls) → w ≡ no_calls 0 → GoesOn w → is_over true (code_at true r) (length bytes) ≡ true
      → length bytes ≤ 30 → Moves w
  unfolding GoesOn Moves
  stays r e w none on over few = search rules

  first : (r : CallReading) → read_call bytes 0 ≡ r → GoesOn (calls_from (length out / 6) bytes 0) → Moves (calls_from (length out / 6) bytes 0)
  unfolding GoesOn Moves is_over is_refused code_at pick with_call
  first (called c next) e on =
      let k : ℕ = length out / 6 - 1 in
      let one : length out / 6 ≡ suc k = omega arith in
      let past = call_after bytes 0 c next e in
      let inside = call_within bytes 0 c next e in
      let ends = calls_end k bytes next inside in
      let used = ap (λ (n : ℕ). (calls_from n bytes 0).next) one ∙ ap (λ (w : Calls). w.next) (calls_one k bytes 0 c next e) in
      inl (omega (arith, ends.0, length-drop (calls_from (length out / 6) bytes 0).next bytes))
  first nothing e on =
      let none = nothing_none bytes e in
      stays nothing e (calls_from (length out / 6) bytes 0) (calls_nothing (length out / 6) bytes 0 e) on (eq-eqb (length bytes) 0 none) (omega arith)
  first (broken code) e on =
      ⊎_elim
      (λ cut.
      stays (broken code) e (calls_from (length out / 6) bytes 0) (calls_broken (length out / 6) bytes 0 code e) on
      (ap (λ (n : ℕ). is_over true (code_at true (broken n)) (length bytes)) cut.0) (omega (arith, cut.1)))
      (λ malformed.
      not_both (ap (λ (n : ℕ). is_over last (code_at last (broken n)) (length bytes)) malformed)
      (ap (λ (x : CallReading). is_over last (code_at last x) (length bytes)) (sym e) ∙ subst GoesOn (calls_broken (length out / 6) bytes 0 code e) on))
      (call_breaks bytes 0 code e)

  turn_moves : is_over last (piece_run m bytes last out).code (length (left_by (piece_run m bytes last out) bytes)) ≡ false
      → (length (left_by (piece_run m bytes last out) bytes) < length bytes) ⊎ ((last ≡ false) × (length (left_by (piece_run m bytes last out) bytes) ≤ 30))
  unfolding GoesOn Moves
  turn_moves on = first (read_call bytes 0) refl on

-- ---- turn after turn

module _ (m : Monitor) (shape : Shape m) (bytes more : List ℕ) (last : Bool) (ended : last ≡ true → more ≡ []) (out : List ℤ) (m₀ : Monitor) (code₀ : ℤ) where
  turn : Passed
  turn = piece_run m bytes last out

  left : List ℕ
  unfolding turn
  left = left_by turn bytes

  turn_sound : sound m ≡ true → SoundRecord turn.monitor
  unfolding turn
  turn_sound h = calls_sound_kept _ m _ (record { shape = shape; is_sound = h })

  left_then : drop turn.used (bytes ++ more) ≡ left ++ more
  unfolding turn left
  left_then = drop-append-le turn.used bytes more (calls_end (length out / 6) bytes 0 (omega arith)).1

  code_left : turn.code ≡ code_at last (read_call left 0)
  unfolding turn left
  code_left =
      ap (code_at last) (ap (read_call bytes) (sym (add-zero turn.used)) ∙ call_shifts bytes turn.used 0)
      ∙ code_shifts last turn.used (read_call left 0)

  module _ (after : Monitor → List ℕ → List Passed)
      (later : SoundRecord turn.monitor → is_over last turn.code (length left) ≡ false
      → together turn.monitor turn.code (after turn.monitor left) ≡ whole_of turn.monitor (left ++ more)) where
    -- what comes after a turn on a sound record gives the whole of what the turn leaves
    rest_whole : sound m ≡ true
        → let rest = pick (is_over last turn.code (length left)) [] (after turn.monitor left) in
        together turn.monitor turn.code rest ≡ whole_run turn.monitor (left ++ more)
    unfolding together whole_of
    rest_whole h =
        test (is_over last turn.code (length left))
        (λ over.
        ap (together turn.monitor turn.code) (pick_true (is_over last turn.code (length left)) _ _ over)
        ∙ ap (λ (code : ℤ). passed turn.monitor code 0 0 []) code_left
        ∙ sym (over_whole turn.monitor left more last ended (read_call left 0) refl
        (subst (λ (code : ℤ). is_over last code (length left) ≡ true) code_left over)))
        (λ on.
        ap (together turn.monitor turn.code) (pick_false (is_over last turn.code (length left)) _ _ on)
        ∙ later (turn_sound h) on
        ∙ pick_true (sound turn.monitor) _ _ (turn_sound h).is_sound)

    -- A turn and those after it give the whole, if those after it give the whole of what it leaves.
    turn_whole : together m₀ code₀ (then_turns last bytes (piece_of m bytes last out) after) ≡ whole_of m (bytes ++ more)
    unfolding together then_turns piece_of whole_of is_over is_refused pick turn left run w rest
    turn_whole =
        test (sound m)
        (λ h.
        ap (λ (p : Passed). together m₀ code₀ (then_turns last bytes p after)) (pick_true (sound m) turn (passed m unsound 0 0 out) h)
        ∙ ap (in_front turn) (rest_whole h ∙ ap (whole_run turn.monitor) (sym left_then))
        ∙ turn_then_rest m bytes more last out
        ∙ sym (pick_true (sound m) (whole_run m (bytes ++ more)) (passed m unsound 0 0 []) h))
        (λ h.
        ap (λ (p : Passed). together m₀ code₀ (then_turns last bytes p after)) (pick_false (sound m) turn (passed m unsound 0 0 out) h)
        ∙ sym (pick_false (sound m) (whole_run m (bytes ++ more)) (passed m unsound 0 0 []) h))

-- each turn is lent places for one call at least
abbrev pub Roomy : (ℕ → List ℤ) → Type 0
Roomy lent = (k : ℕ) → 6 ≤ length (lent k)

last_whole : (most : ℕ) (lent : ℕ → List ℤ) → Roomy lent → (m : Monitor) → Shape m → (bytes : List ℕ) → length bytes < most → (m₀ : Monitor) (code₀ : ℤ)
    → together m₀ code₀ (last_turns most lent m bytes) ≡ whole_of m bytes
unfolding last_turns turn left
last_whole zero lent room m shape bytes h m₀ code₀ = absurd (omega arith)
last_whole (suc most) lent room m shape bytes h m₀ code₀ =
    turn_whole m shape bytes [] true (λ _. refl) (lent 0) m₀ code₀ (last_turns most (λ k. lent (suc k)))
    (λ fine on.
    last_whole most (λ k. lent (suc k)) (λ k. room (suc k)) _ fine.shape _
    (⊎_elim (λ k. omega arith) (λ k. not_both refl k.0) (turn_moves m bytes true (lent 0) (room 0) on)) _ _
    ∙ ap (whole_of _) (sym (append-nil _)))
    ∙ ap (whole_of m) (append-nil bytes)

turns_whole : (chunks : List (List ℕ)) (final : List ℕ) (lent : ℕ → List ℤ) → Roomy lent → (m : Monitor) → Shape m → (kept : List ℕ) (m₀ : Monitor) (code₀ : ℤ)
    → together m₀ code₀ (turns_of chunks final lent m kept) ≡ whole_of m (kept ++ joined chunks final)
unfolding turns_of joined turn left
turns_whole [] final lent room m shape kept m₀ code₀ = last_whole (suc (length (kept ++ final))) lent room m shape (kept ++ final) (omega arith) m₀ code₀
turns_whole (chunk ∷ chunks) final lent room m shape kept m₀ code₀ =
    turn_whole m shape (kept ++ chunk) (joined chunks final) false (λ e. not_both e refl) (lent 0) m₀ code₀ (turns_of chunks final (λ k. lent (suc k)))
    (λ fine on. turns_whole chunks final (λ k. lent (suc k)) (λ k. room (suc k)) _ fine.shape _ _ _)
    ∙ ap (whole_of m) (append_assoc kept chunk (joined chunks final))

-- ---- the theorem

-- What a file gives that is run in pieces depends on its bytes alone.
pub pieces_whole : (m : Monitor) → Shape m → (chunks : List (List ℕ)) (final : List ℕ) (lent : ℕ → List ℤ) → Roomy lent
    → pieces_of m chunks final lent ≡ whole_of m (joined chunks final)
pieces_whole m shape chunks final lent room = turns_whole chunks final lent room m shape [] m file_run

-- the whole file has an answer's six places for each call that was run
pub whole_long : (m : Monitor) (input : List ℕ) → length (whole_of m input).places ≡ (whole_of m input).calls * 6
unfolding whole_of
whole_long m input =
    by_test (λ (p : Passed). length p.places ≡ p.calls * 6) (λ _. answers_long (file_calls input).count m (file_calls input).numbers) (λ _. refl)

-- with room enough it is what the file gives at once
pub whole_file : (m : Monitor) (input : List ℕ) (out : List ℤ) → (file_calls input).count ≤ length out / 6 → onto out (whole_of m input) ≡ file_of m input out
unfolding whole_of file_of piece_of pick
whole_file m input out h =
    test (sound m)
    (λ s.
    ap (onto out) (pick_true (sound m) _ _ s)
    ∙ ap (after_calls m input true out) (sym (calls_all (length out / 6) input h))
    ∙ sym (pick_true (sound m) _ _ s)
    ∙ sym (pick_true (leb (file_calls input).count (length out / 6)) _ _ (le-leb _ _ h)))
    (λ s.
    ap (onto out) (pick_false (sound m) _ _ s)
    ∙ sym (pick_false (sound m) _ _ s)
    ∙ sym (pick_true (leb (file_calls input).count (length out / 6)) _ _ (le-leb _ _ h)))

-- A file run in pieces, whichever way it is cut and however many answer places each turn is lent, one call's at least, gives the record, the code, the
-- number of calls and of bytes, and the answers of the whole file.
pub pieces_are_the_whole : (m : Monitor) → Shape m → (chunks : List (List ℕ)) (final : List ℕ) (lent : ℕ → List ℤ) → Roomy lent
    → (out : List ℤ) → (file_calls (joined chunks final)).count ≤ length out / 6
    → onto out (pieces_of m chunks final lent) ≡ file_of m (joined chunks final) out
pieces_are_the_whole m shape chunks final lent room out h =
    ap (onto out) (pieces_whole m shape chunks final lent room) ∙ whole_file m (joined chunks final) out h

-- So two ways of cutting one input give the same.
pub cuts_agree : (m : Monitor) → Shape m → (chunks chunks' : List (List ℕ)) (final final' : List ℕ) (lent lent' : ℕ → List ℤ) → Roomy lent → Roomy lent'
    → joined chunks final ≡ joined chunks' final' → pieces_of m chunks final lent ≡ pieces_of m chunks' final' lent'
cuts_agree m shape chunks chunks' final final' lent lent' room room' same =
    pieces_whole m shape chunks final lent room ∙ ap (whole_of m) same ∙ sym (pieces_whole m shape chunks' final' lent' room')

-- six places for each call that a turn ran
pub said_long : (m : Monitor) (bytes : List ℕ) (last : Bool) (out : List ℤ) → length (said_by (piece_of m bytes last out)) ≡ (piece_of m bytes last out).calls * 6
unfolding piece_of run w
said_long m bytes last out =
    by_test (λ (p : Passed). length (said_by p) ≡ p.calls * 6) {b = sound m} {x = piece_run m bytes last out} {y = passed m unsound 0 0 out}
    (λ _. ap length (said m bytes [] last out) ∙ answers_long (w m bytes [] last out).count m (w m bytes [] last out).numbers)
    (λ _. refl)

-- and as many places as it was lent
pub places_long : (m : Monitor) (bytes : List ℕ) (last : Bool) (out : List ℤ) → length (piece_of m bytes last out).places ≡ length out
unfolding piece_of
places_long m bytes last out =
    let w : Calls = calls_from (length out / 6) bytes 0 in
    let few = calls_few (length out / 6) bytes 0 in
    by_test (λ (p : Passed). length p.places ≡ length out) {b = sound m} {x = piece_run m bytes last out} {y = passed m unsound 0 0 out}
    (λ _.
    length-append (answers_of w.count m w.numbers) (drop (w.count * 6) out)
    ∙ omega (arith, answers_long w.count m w.numbers, length-drop (w.count * 6) out))
    (λ _. refl)

-- ---- room for the next chunk

-- A turn after which the file is not over leaves fewer bytes than it had, or at most 30: a call has no more.
pub piece_moves : (m : Monitor) (bytes : List ℕ) (last : Bool) (out : List ℤ) → 6 ≤ length out
    → is_over last (piece_of m bytes last out).code (length (left_by (piece_of m bytes last out) bytes)) ≡ false
    → (length (left_by (piece_of m bytes last out) bytes) < length bytes) ⊎ ((last ≡ false) × (length (left_by (piece_of m bytes last out) bytes) ≤ 30))
unfolding piece_of is_over is_refused pick
piece_moves m bytes last out room =
    by_test Moves {b = sound m} {x = piece_run m bytes last out} {y = passed m unsound 0 0 out} (λ _. turn_moves m bytes last out room)
    (λ _ on. not_both refl on)
  where
    Moves : Passed → Type 0
    Moves p =
        let left = length (left_by p bytes) in
        is_over last p.code left ≡ false → (left < length bytes) ⊎ ((last ≡ false) × (left ≤ 30))
