-- The drill program's turns, each from what the one before it handed on, write the lines of the whole file and its refusal's.
-- Assumes nothing.
use Rattle.std.proofs.Common.{ℕ, zero, suc, ◌+◌, ◌/◌, ◌≤◌, ◌≡◌, refl, ap, sym, ◌∙◌, subst, Bool, true, false, List, [], ◌∷◌, ◌++◌, append-nil, arith, le-leb, leb, ℤ, length, take, drop, length-append, length-drop, take_at, length-take-le}
use Rattle.rules.specs.Choice.{pick}
use Rattle.rules.specs.declared.Monitor.{Monitor}
use Rattle.rules.proofs.Fine.{Shape}
use Rattle.rules.proofs.Logic.{pick_true}
use Rattle.monitor.specs.File.{file_calls, Passed, piece_of, file_of}
use Rattle.monitor.specs.Pieces.{left_by, then_turns, last_turns, turns_of, joined}
use Rattle.monitor.proofs.Calls.{piece_few}
use Rattle.monitor.proofs.Pieces.{Roomy, places_long}
use Rattle.listing.specs.Piece.{Shown, text_of, texts_of, listing, text_room, listed_of}
use Rattle.listing.specs.Turn.{Turned, turned, leaving, turned_of, read_into, unless_over, end_turns, program_turns, written_by}
use Rattle.listing.proofs.Pieces.{text_short}
use Rattle.listing.proofs.Whole.{lines_are_the_whole}

-- what a turn needs of what was handed on: one call's answer places, room for its text, and the kept bytes
pub record Ready (t : Turned) : Type 0 where
  pub places : 6 ≤ length t.places
  pub text : text_room t.places ≤ length t.text
  pub kept : t.kept ≤ length t.input

-- the bytes that a turn hands on
abbrev handed_on : Turned → List ℕ
handed_on t = take t.kept t.input

-- the places that are lent first, and those that are lent after them
abbrev lent_first : List ℤ → (ℕ → List ℤ) → ℕ → List ℤ
lent_first first later zero = first
lent_first first later (suc k) = later k

-- These turns write the text of those: with some places lent to each.
abbrev Writes : List Turned → ((ℕ → List ℤ) → List Passed) → Type 0
Writes ts ps = (lent : ℕ → List ℤ) × Roomy lent × (written_by ts ≡ texts_of (ps lent))

first_roomy : (first : List ℤ) (later : ℕ → List ℤ) → 6 ≤ length first → Roomy later → Roomy (lent_first first later)
first_roomy first later h r zero = h
first_roomy first later h r (suc k) = r k

both_end : (over : Bool) (ts : List Turned) (ps : List Passed) → written_by ts ≡ texts_of ps → written_by (pick over [] ts) ≡ texts_of (pick over [] ps)
unfolding pick written_by texts_of
both_end true ts ps e = refl
both_end false ts ps e = e

-- ---- one turn

module _ (m : Monitor) (input : List ℕ) (count : ℕ) (ended : Bool) (answers : List ℤ) (out : List ℕ)
    (places : 6 ≤ length answers) (room : text_room answers ≤ length out) where
  bytes : List ℕ
  bytes = take count input

  p : Passed
  p = piece_of m bytes ended answers

  given : Turned
  given = leaving ended input (listing p out) (left_by p bytes)

  turn_gives : turned_of m input count ended answers out ≡ given
  unfolding turned_of listed_of given p bytes
  turn_gives =
      ap (λ (s : Shown). leaving ended input s (drop s.used bytes))
      (pick_true (leb (text_room answers) (length out)) _ _ (le-leb (text_room answers) (length out) room))

  given_ready : Ready given
  unfolding given p bytes
  given_ready =
      let same = places_long m bytes ended answers in
      let few = piece_few m bytes ended answers in
      record {
        places = omega arith;
        text = omega (arith, length-append (text_of p) (drop (length (text_of p)) out), length-drop (length (text_of p)) out, text_short p);
        kept = omega (arith, length-append (left_by p bytes) (drop (length (left_by p bytes)) input));
      }

  given_left : handed_on given ≡ left_by p bytes
  unfolding given p bytes
  given_left = take_at (left_by p bytes) (drop (length (left_by p bytes)) input) (length (left_by p bytes)) refl

  given_text : take given.written given.text ≡ text_of p
  unfolding given p bytes
  given_text = take_at (text_of p) (drop (length (text_of p)) out) (length (text_of p)) refl

  module _ (after : Turned → List Turned) (later : (ℕ → List ℤ) → Monitor → List ℕ → List Passed)
      (rest : (t : Turned) → Ready t → Writes (after t) (λ lent. later lent t.monitor (handed_on t))) where
    turn_writes : Writes (unless_over (turned_of m input count ended answers out) after)
        (λ lent. then_turns ended bytes (piece_of m bytes ended (lent 0)) (later (λ k. lent (suc k))))
    unfolding unless_over then_turns written_by texts_of given p bytes
    turn_writes =
        let run = rest given given_ready in
        subst (λ (t : Turned). Writes (unless_over t after) (λ lent. then_turns ended bytes (piece_of m bytes ended (lent 0)) (later (λ k. lent (suc k)))))
        (sym turn_gives) (
          lent_first answers run.0,
          first_roomy answers run.0 places run.1,
          ap (λ (l : List ℕ). l ++ written_by (pick given.over [] (after given))) given_text
              ∙ ap (λ (l : List ℕ). text_of p ++ l)
              (both_end given.over (after given) (later run.0 p.monitor (left_by p bytes))
              (run.2 ∙ ap (λ (b : List ℕ). texts_of (later run.0 p.monitor b)) given_left)),
        )

-- ---- turn after turn

end_writes : (most : ℕ) (t : Turned) → Ready t → Writes (end_turns most t) (λ lent. last_turns most lent t.monitor (handed_on t))
unfolding end_turns last_turns written_by texts_of bytes
end_writes zero t r = ((λ _. t.places), (λ _. r.places), refl)
end_writes (suc most) t r =
    turn_writes t.monitor t.input t.kept true t.places t.text r.places r.text (end_turns most) (last_turns most) (end_writes most)

program_writes : (chunks : List (List ℕ)) (t : Turned) → Ready t → Writes (program_turns chunks t) (λ lent. turns_of chunks [] lent t.monitor (handed_on t))
unfolding program_turns turns_of bytes
program_writes [] t r =
    let w = end_writes (suc t.kept) t r in (
      w.0,
      w.1,
      w.2
          ∙ ap (λ (k : ℕ). texts_of (last_turns (suc k) w.0 t.monitor (handed_on t))) (sym (length-take-le t.kept t.input r.kept))
          ∙ ap (λ (b : List ℕ). texts_of (last_turns (suc (length b)) w.0 t.monitor b)) (sym (append-nil (handed_on t))),
    )
program_writes (chunk ∷ chunks) t r =
    let input : List ℕ = read_into t.input t.kept chunk in
    let count : ℕ = t.kept + length chunk in
    let long : length (handed_on t ++ chunk) ≡ count = length-append (handed_on t) chunk ∙ omega (arith, length-take-le t.kept t.input r.kept) in
    let held : take count input ≡ handed_on t ++ chunk = take_at (handed_on t ++ chunk) (drop count t.input) count long in
    subst
    (λ (b : List ℕ).
    Writes (unless_over (turned_of t.monitor input count false t.places t.text) (program_turns chunks))
    (λ lent. then_turns false b (piece_of t.monitor b false (lent 0)) (turns_of chunks [] (λ k. lent (suc k)))))
    held
    (turn_writes t.monitor input count false t.places t.text r.places r.text (program_turns chunks) (turns_of chunks []) (program_writes chunks))

-- ---- the theorem

-- Whatever the buffers hold at the start, and whichever chunks the input comes in, the program writes the lines of the whole file and its refusal's.
pub program_lists_the_whole : (m : Monitor) → Shape m → (chunks : List (List ℕ)) (input : List ℕ) (answers : List ℤ) (text : List ℕ)
    → 6 ≤ length answers → text_room answers ≤ length text → (out : List ℤ) → (file_calls (joined chunks [])).count ≤ length out / 6
    → written_by (program_turns chunks (turned m 0 0 false input answers text)) ≡ text_of (file_of m (joined chunks []) out)
program_lists_the_whole m shape chunks input answers text places room out h =
    let w = program_writes chunks (turned m 0 0 false input answers text) (record { places = places; text = room; kept = omega arith }) in
    w.2 ∙ lines_are_the_whole m shape chunks [] w.0 w.1 out h
