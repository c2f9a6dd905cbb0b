-- What owning a Store tells of its words.
--     words_stored   what is an array `[u32; 900]` is all numbers of 32 bits
--     store_stored   so are the words of what is a Store
-- Assumes nothing.
use Rattle.std.proofs.Common.{ℕ, zero, suc, ◌<◌, List, [], ◌∷◌, le_of_suc-le-suc, not-suc-le-zero, length, get_or, rules}
use mir.Val.{Val}
use denote.RattleType.{RattleType}
use denote.Laws.{Is}
use denote.Shadow.{shadow}
use denote.Array.{each, Array}
use denote.Builtin.{u32}
use Rattle.monitor.specs.declared.words.Store.{Store}
use Rattle.monitor.specs.Words.{words}
use Rattle.monitor.specs.View.{WordsOf}
use Rattle.monitor.specs.contracts.words.Store as S

abbrev pub Words : RattleType
Words = Array u32 words

each_small : (xs : List ℕ) (us : List Val) → shadow (each ℕ u32.own_val xs us) → (k : ℕ) → k < length xs → get_or xs k 0 < 4294967296
each_small [] us s k g = absurd (not-suc-le-zero g)
each_small (x ∷ xs) [] s k g = absurd s
each_small (x ∷ xs) (u ∷ us) s zero g = s.0.1
each_small (x ∷ xs) (u ∷ us) s (suc k) g = each_small xs us s.1 k (le_of_suc-le-suc g)

pub words_stored : (xs : List ℕ) (vs : List Val) → Is Words xs vs → WordsOf xs
words_stored xs vs is = search rules

pub store_stored : (m : Store) (vs : List Val) → Is S.the_row m vs → WordsOf m.words
store_stored m vs is = words_stored m.words is.0.0 is.1.1.0
