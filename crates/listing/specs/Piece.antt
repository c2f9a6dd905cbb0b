-- A piece of a drill file, run and listed.
-- Assumes nothing.
use Rattle.std.specs.Prelude.{ℕ, ◌+◌, ◌*◌, ◌/◌, Bool, List, [], ◌∷◌, ◌++◌, leb, ℤ, length, drop}
use Rattle.rules.specs.Choice.{pick}
use Rattle.rules.specs.Codes.{too_little_room}
use Rattle.rules.specs.declared.Monitor.{Monitor}
use Rattle.monitor.specs.File.{Passed, piece_of}
use Rattle.listing.specs.Text.{lines_of, refusal_line}

-- the lines of the calls that were run, and the refusal's
abbrev pub text_of : Passed → List ℕ
text_of p = lines_of p.calls p.places ++ refusal_line p.code

-- the text of pieces, one after the other
unfoldable pub texts_of : List Passed → List ℕ
texts_of [] = []
texts_of (p ∷ ps) = text_of p ++ texts_of ps

-- What a piece gives: the record afterwards, how many bytes of the input its calls took, how many bytes of text they made, the code, and the two lent
-- lists afterwards.
pub record Shown : Type 0 where
  pub monitor : Monitor
  pub used : ℕ
  pub written : ℕ
  pub code : ℤ
  pub places : List ℤ
  pub text : List ℕ

abbrev pub shown : Monitor → ℕ → ℕ → ℤ → List ℤ → List ℕ → Shown
shown m used written code places text = record { monitor = m; used = used; written = written; code = code; places = places; text = text }

abbrev pub listing : Passed → List ℕ → Shown
listing p out =
    shown p.monitor p.used (length (text_of p)) p.code p.places (text_of p ++ drop (length (text_of p)) out)

-- room for the longest lines that so many answer places can make, and for a refusal
abbrev pub text_room : List ℤ → ℕ
text_room answers = length answers / 6 * 132 + 22

-- As many calls as there are answer places for, with their text at the front of the text's buffer; too short a buffer is 16, and nothing is run.
unfoldable pub listed_of : Monitor → List ℕ → Bool → List ℤ → List ℕ → Shown
listed_of m input last answers out =
    pick (leb (text_room answers) (length out)) (listing (piece_of m input last answers) out) (shown m 0 0 too_little_room answers out)
