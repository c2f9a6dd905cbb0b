-- What is written of a request and what of a call, what the buffer is afterwards, and what reading answers.
-- Assumes nothing.
use Rattle.std.specs.Prelude.{ℕ, Bool, false, ◌&&◌, List, eqb, ℤ, pos, negsuc}
use Rattle.number.specs.Writer.{Writing, written, unwritten, write_answer, write_buffer}
use Rattle.number.specs.Numbers.{Numbers, numbers, stopped, all_numbers, numbers_bytes}
use Rattle.rules.specs.Choice.{pick}
use Rattle.rules.specs.Codes.{sequence_done, bad_argument}
use Rattle.rules.specs.Requests.{no_reply, no_tran}
use Rattle.rules.specs.declared.Call.{Call}
use Rattle.rules.specs.declared.Answer.{Answer}
use Rattle.rules.specs.declared.Link.{Link}
use Rattle.wire.specs.Sequences.{Read, request, no_request, read_refused, sequence_of, is_writable, meaning_of}
use Rattle.wire.specs.declared.sequence.Request.{Request}

-- ---- writing
-- a request's bytes
abbrev pub bytes_of : Request → List ℕ
bytes_of r = numbers_bytes (sequence_of r)

-- what writing tells: 0 and how many bytes were written, or a refusal and 0
pub record Written : Type 0 where
  pub code : ℤ
  pub length : ℕ

abbrev pub wrote : ℤ → ℕ → Written
wrote code length = record { code = code; length = length }

-- how many bytes were written, or a refusal
unfoldable pub as_written : Writing → Written
as_written (written next) = wrote sequence_done next
as_written (unwritten code) = wrote (pos code) 0

-- "by 22; then a lent buffer too short by 16, and it stays as it was"
unfoldable pub wire_answer : List ℕ → Request → Written
wire_answer buffer r = pick (is_writable r) (as_written (write_answer buffer 0 (bytes_of r))) (wrote bad_argument 0)

-- the whole buffer afterwards
unfoldable pub wire_buffer : List ℕ → Request → List ℕ
wire_buffer buffer r = pick (is_writable r) (write_buffer buffer 0 (bytes_of r)) buffer

-- ---- reading
-- "The reader's other refusal is 33, no such sequence ..; it comes after 17 and 18, asked of every number in the input."
unfoldable pub read_from : Numbers → Read
read_from (numbers values next) = meaning_of values
read_from (stopped code) = read_refused (pos code)

unfoldable pub read_of : List ℕ → Read
read_of input = read_from (all_numbers input)

-- ---- a call
-- how many requests are to be written, 1 or 0, and which
pub record Outgoing : Type 0 where
  pub count : ℕ
  pub request : Request

abbrev pub outgoing : ℕ → Request → Outgoing
outgoing count r = record { count = count; request = r }

-- "Accepted is code 0."
unfoldable pub is_accepted : ℤ → Bool
is_accepted (pos n) = eqb n 0
is_accepted (negsuc n) = false

-- 1 if the transaction is one, 0 if it is none
unfoldable pub some_tx : ℕ → ℕ
some_tx tx = pick (eqb tx 0) 0 1

-- "for each accepted kind 12": service a, token c; a reply is wanted unless b has flag 1; the link is of the caller's T, which the answer ends in, unless
-- b has flag 2
unfoldable pub outgoing_of : Call → Answer → Outgoing
outgoing_of c a =
    pick (eqb c.kind 12 && is_accepted a.code)
    (outgoing 1 (request c.a c.c (pick (no_reply c.b) 0 1) (some_tx (pick (no_tran c.b) 0 a.tx))))
    (outgoing 0 no_request)

-- the request that a link stands for
abbrev pub of_link : Link → Request
of_link l = request l.service l.first l.attached (some_tx l.tx)
