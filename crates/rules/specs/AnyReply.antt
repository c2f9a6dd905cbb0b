-- What a fetch of whichever reply takes (document 02, R-1): as a fetch by number takes it.
-- Assumes nothing.
use Rattle.std.specs.Prelude.{◌≡◌, Bool, true, false, ◌||◌, ℕ, ◌≤◌, eqb, ℤ, pos, negsuc}
use Rattle.rules.specs.Record.{is_returned, link_of}
use Rattle.rules.specs.Replies.{request_end}
use Rattle.rules.specs.Step.{step_of}
use Rattle.rules.specs.declared.Call.{Call}
use Rattle.rules.specs.declared.Monitor.{Monitor}
use Rattle.rules.specs.declared.Stepped.{Stepped}

-- the codes of a fetch that takes a reply: 0, 30 and 31
unfoldable pub is_reply : ℤ → Bool
is_reply (pos n) = eqb n 0 || (eqb n 30 || eqb n 31)
is_reply (negsuc n) = false

-- the call c as a fetch of link d by its number
abbrev pub fetch_by : Call → ℕ → Call
fetch_by c d = record { clock = c.clock; party = c.party; kind = c.kind; a = d; b = 0; c = c.c }

-- the same record and answer, but for the value
abbrev pub revalued : Stepped → ℕ → Stepped
revalued s v =
    record {
      monitor = s.monitor;
      answer = record {
        code = s.answer.code;
        value = v;
        event = s.answer.event;
        token = s.answer.token;
        service = s.answer.service;
        tx = s.answer.tx;
      };
    }

-- The call c on the record m took whichever reply was there, with s: the value names an open request end of the caller's
-- that has returned, the lowest such, and answer and record are those of the fetch by that number, but for the value.
pub record TookAny (m : Monitor) (c : Call) (s : Stepped) : Type 0 where
  pub end : request_end c.party (link_of m s.answer.value) ≡ true
  pub there : is_returned (link_of m s.answer.value) ≡ true
  pub lowest : (d : ℕ) → request_end c.party (link_of m d) ≡ true → is_returned (link_of m d) ≡ true → s.answer.value ≤ d
  pub alike : s ≡ revalued (step_of m (fetch_by c s.answer.value)) s.answer.value
