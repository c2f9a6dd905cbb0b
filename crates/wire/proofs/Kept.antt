-- Laws of the reader's loop: it keeps the first eight of the numbers that it reads, and they say what all of them say.
-- Assumes nothing.
use Rattle.std.proofs.Common.{⊎_elim, pos, ◌≡◌, ℕ, ◌<◌, ◌≤◌, ◌↔◌, List, ◌∷◌, [], ◌++◌, length, take, refl, ap, sym, ◌∙◌}
use Rattle.std.proofs.Common.{arith, Result, Ok, Err, IsOk, OnOk, OnErr, length-append, length-take, length-take-le, take_all}
use Rattle.std.proofs.lemmas.List.{take-append-le}
use Rattle.std.proofs.lemmas.Bool.{false≢true}
use Rattle.number.specs.declared.reader.ReadError as number
use Rattle.number.specs.declared.reader.ReadError.TheVariants as kind
use Rattle.number.specs.Answers.{decoded}
use Rattle.number.specs.Reader.{number as value_of, refused, read_number}
use Rattle.number.proofs.Reading.{below_or_not}
use Rattle.number.proofs.Successive.{ReadsAll, reads_all_none, reads_all_one, reads_all_stop, reads_all_end}
use Rattle.rules.specs.Codes.{no_such_sequence}
use Rattle.wire.specs.Answers.{read_code, number_refusal}
use Rattle.wire.specs.Sequences.{meaning_of, read_refused}
use Rattle.wire.specs.Entries.{read_from, read_of}
use Rattle.wire.proofs.Shapes.{at_most_seven}
use Rattle.wire.proofs.Meaning.{says_none}

-- eight numbers and more are no request's
many_say_none : (values : List ℕ) → 8 ≤ length values → read_refused no_such_sequence ≡ meaning_of values
many_say_none values h = says_none values (λ r e. omega (arith, at_most_seven r, ap length e))

eight_mean : (values : List ℕ) → meaning_of (take 8 values) ≡ meaning_of values
eight_mean values =
    ⊎_elim
    (λ h. ap meaning_of (take_all 8 values (omega arith)))
    (λ h. sym (many_say_none (take 8 values) (omega (arith, length-take-le 8 values h))) ∙ many_say_none values h)
    (below_or_not (length values) 8)

-- one number more is kept as long as there are not eight
kept_more : {X E : Type 0} (values kept new : List ℕ) (value : ℕ) → kept ≡ take 8 values → (pushed : Result X E)
    → (IsOk pushed ↔ (length kept < 8)) → OnOk pushed (new ≡ kept ++ value ∷ []) → OnErr pushed (new ≡ kept)
    → new ≡ take 8 (values ++ value ∷ [])
kept_more values kept new value k (Ok _) room more same =
    let few : length values < 8 = omega (arith, room.0 refl, ap length k, length-take 8 values) in
    more
    ∙ ap (λ l. l ++ value ∷ []) (k ∙ take_all 8 values (omega arith))
    ∙ sym (take_all 8 (values ++ value ∷ []) (omega (arith, length-append values (value ∷ []))))
kept_more values kept new value k (Err _) room more same =
    ⊎_elim
    (λ h. absurd (false≢true (room.1 h)))
    (λ h. same ∙ k ∙ sym (take-append-le 8 values (value ∷ []) (omega (arith, h, ap length k, length-take 8 values))))
    (below_or_not (length kept) 8)

-- The first eight of the numbers up to `at` are kept.
pub record Keeps (input kept : List ℕ) (at : ℕ) : Type 0 where
  pub values : List ℕ
  pub keeps : kept ≡ take 8 values
  pub reads : ReadsAll input values at

pub keeps_none : (input kept : List ℕ) → kept ≡ [] → Keeps input kept 0
keeps_none input kept e = record { values = []; keeps = e; reads = reads_all_none input }

module _ {input kept : List ℕ} {at : ℕ} (h : Keeps input kept at) where
  module _ (within : at < length input) where
    pub keeps_one : {X E : Type 0} (value next : ℕ) → read_number 5 32 input at ≡ value_of value next → (new : List ℕ) (pushed : Result X E)
        → (IsOk pushed ↔ (length kept < 8)) → OnOk pushed (new ≡ kept ++ value ∷ []) → OnErr pushed (new ≡ kept)
        → Keeps input new next
    keeps_one value next e new pushed room more same =
        record {
          values = h.values ++ value ∷ [];
          keeps = kept_more h.values kept new value h.keeps pushed room more same;
          reads = reads_all_one h.reads within value next e;
        }

    keeps_stop : (code : ℕ) → read_number 5 32 input at ≡ refused code → read_refused (pos code) ≡ read_of input
    unfolding read_of read_from
    keeps_stop code e = sym (ap read_from (reads_all_stop h.reads within code e))

    -- a bad number decides
    pub keeps_bad : (bad : number.ReadError) → decoded (Err bad) ≡ read_number 5 32 input at → read_refused (read_code (number_refusal bad)) ≡ read_of input
    unfolding decoded
    keeps_bad kind.CutShort e = keeps_stop 17 (sym e)
    keeps_bad kind.Malformed e = keeps_stop 18 (sym e)

  pub keeps_all : length input ≤ at → meaning_of kept ≡ read_of input
  unfolding read_of read_from
  keeps_all end = ap meaning_of h.keeps ∙ eight_mean h.values ∙ sym (ap read_from (reads_all_end h.reads end))
