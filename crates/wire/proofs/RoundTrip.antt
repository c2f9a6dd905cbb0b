-- What is written is read, and what is read is what is written: one form for each request, and one request for each form.
-- Assumes nothing.
use Rattle.std.proofs.Common.{ℕ, suc, ◌+◌, ◌-◌, ◌^◌, ◌≤◌, ◌<◌, ◌≡◌, refl, ap, ap₂, sym, ◌∙◌, subst, ◌⊎◌, inl, inr, ⊎_elim, Bool, true, false, not, ◌&&◌, ◌||◌, List, [], ◌∷◌, ◌++◌, arith, leb-true, eqb, leb, pos, length, take, drop, get_or, length-append}
use Rattle.number.specs.Writer.{Writing, written, number_bytes, write_answer, write_buffer}
use Rattle.number.specs.Numbers.{Numbers, numbers, stopped, all_numbers, numbers_bytes}
use Rattle.number.proofs.Groups.{bytes_last, bytes_few}
use Rattle.number.proofs.Reading.{below_or_not}
use Rattle.number.proofs.Stores.{fit_answer, fit_list, unfit_answer, written_part}
use Rattle.number.proofs.Successive.{Small, none_small, one_small, all_written_read, all_read_written, all_stopped}
use Rattle.rules.specs.Choice.{pick}
use Rattle.rules.specs.Refusals.{is_refusal}
use Rattle.rules.specs.Services.{is_service}
use Rattle.rules.proofs.Logic.{pick_true, pick_false, by_test, test, not_both, and_l, and_r, and_true}
use Rattle.wire.specs.Sequences.{Read, no_request, read_done, read_refused, sequence_of, is_writable, wants_reply, of_tx, says, said_by, meaning_of}
use Rattle.wire.specs.Entries.{Written, bytes_of, wrote, as_written, wire_answer, wire_buffer, read_from, read_of, is_accepted}
use Rattle.wire.specs.declared.sequence.Request.{Request}
use Rattle.wire.proofs.Meaning.{said_own, good_service, by_form, means_own}

-- ---- how many bytes

low_bytes : (n k : ℕ) (ns : List ℕ) → n < 128 → length (numbers_bytes ns) ≤ k → length (numbers_bytes (n ∷ ns)) ≤ suc k
unfolding numbers_bytes
low_bytes n k ns h few = let one : length (number_bytes 5 n) ≡ 1 = ap length (bytes_last 4 n h) in omega (arith, length-append (number_bytes 5 n) (numbers_bytes ns))

five_bytes : (n k : ℕ) (ns : List ℕ) → length (numbers_bytes ns) ≤ k → length (numbers_bytes (n ∷ ns)) ≤ 5 + k
unfolding numbers_bytes
five_bytes n k ns few = omega (arith, length-append (number_bytes 5 n) (numbers_bytes ns), bytes_few 5 n)

no_bytes : length (numbers_bytes []) ≤ 0
unfolding numbers_bytes
no_bytes = omega arith

module _ (r : Request) (w : is_writable r ≡ true) where
  small_service : r.service < 128
  small_service = let h = leb-true r.service 64 (and_r (leb 1 r.service) _ (good_service r w)) in omega arith

  -- service, token and the last number
  end_bytes : (last : ℕ) → last < 128 → length (numbers_bytes (r.service ∷ r.token ∷ last ∷ [])) ≤ 7
  end_bytes last h = low_bytes _ _ _ small_service (five_bytes _ _ _ (low_bytes _ _ _ h no_bytes))

  -- a lent buffer of 11 bytes is always long enough
  pub eleven_bytes : length (bytes_of r) ≤ 11
  unfolding sequence_of pick
  eleven_bytes =
      by_form r w (λ (q : Request). length (bytes_of q) ≤ 11)
      (low_bytes 1 _ _ (omega arith) (low_bytes 1 _ _ (omega arith) (low_bytes 2 _ _ (omega arith) (low_bytes 3 _ _ (omega arith) (end_bytes 4 (omega arith))))))
      (let h = low_bytes 1 _ _ (omega arith) (low_bytes 0 _ _ (omega arith) (low_bytes 3 _ _ (omega arith) (end_bytes 4 (omega arith)))) in omega arith)
      (let h = low_bytes 1 _ _ (omega arith) (low_bytes 0 _ _ (omega arith) (low_bytes 3 _ _ (omega arith) (end_bytes 5 (omega arith)))) in omega arith)

  low_small : (n : ℕ) {ns : List ℕ} → n < 128 → Small ns → Small (n ∷ ns)
  low_small n h rest = one_small {value = n} (omega arith) rest

  small_end : r.token < 2 ^ 32 → (last : ℕ) → last < 128 → Small (r.service ∷ r.token ∷ last ∷ [])
  small_end t last h = low_small r.service small_service (one_small t (low_small last h none_small))

  small_numbers : r.token < 2 ^ 32 → Small (sequence_of r)
  unfolding sequence_of pick
  small_numbers t =
      by_form r w (λ (q : Request). Small (sequence_of q))
      (low_small 1 (omega arith) (low_small 1 (omega arith) (low_small 2 (omega arith) (low_small 3 (omega arith) (small_end t 4 (omega arith))))))
      (low_small 1 (omega arith) (low_small 0 (omega arith) (low_small 3 (omega arith) (small_end t 4 (omega arith)))))
      (low_small 1 (omega arith) (low_small 0 (omega arith) (low_small 3 (omega arith) (small_end t 5 (omega arith)))))

  pub bytes_read : r.token < 2 ^ 32 → read_of (bytes_of r) ≡ read_done r
  unfolding read_of read_from
  bytes_read t = ap read_from (all_written_read (sequence_of r) (small_numbers t)) ∙ means_own r w

-- ---- what is written is read

coded : Written → Bool
coded w = is_accepted w.code

module _ (buffer : List ℕ) (r : Request) (n : ℕ) (e : wire_answer buffer r ≡ wrote (pos 0) n) where
  pub written_writable : is_writable r ≡ true
  unfolding wire_answer coded is_accepted
  written_writable = test (is_writable r) (λ y. y) (λ n'. not_both (ap coded e) (ap coded (pick_false (is_writable r) _ (wrote (pos 22) 0) n')))

  as_written_lem : as_written (write_answer buffer 0 (bytes_of r)) ≡ wrote (pos 0) n
  unfolding wire_answer
  as_written_lem = sym (pick_true _ _ _ written_writable) ∙ e

  fits : write_answer buffer 0 (bytes_of r) ≡ written n
  unfolding as_written coded is_accepted
  fits =
      ⊎_elim
      (λ h. not_both (ap coded as_written_lem) (ap (λ (x : Writing). coded (as_written x)) (sym (unfit_answer buffer 0 (bytes_of r) h))))
      (λ h. let f = fit_answer buffer 0 (bytes_of r) h in
      sym f ∙ ap written (ap (λ (x : Written). x.length) (ap as_written f ∙ as_written_lem)))
      (below_or_not (length buffer) (0 + length (bytes_of r)))

  -- the bytes at the buffer's front, as many as were told
  pub written_bytes : take n (wire_buffer buffer r) ≡ bytes_of r
  unfolding wire_buffer
  written_bytes =
      let all : n ≡ n - 0 = omega arith in
      ap (take n) (pick_true _ _ _ written_writable)
      ∙ ap (λ (k : ℕ). take k (write_buffer buffer 0 (bytes_of r))) all
      ∙ written_part buffer 0 (bytes_of r) n fits

  -- What the writer writes the reader reads as the same service, token, reply and transaction.
  pub written_is_read : r.token < 2 ^ 32 → read_of (take n (wire_buffer buffer r)) ≡ read_done r
  written_is_read t = ap read_of written_bytes ∙ bytes_read r written_writable t

-- ---- what is read is written

-- numbers that mean a request are that request's, and it can be written
module _ (values : List ℕ) where
  Means : Read → Type 0
  Means x = (r : Request) → x ≡ read_done r → (values ≡ sequence_of r) × (is_writable r ≡ true)

  said_means : (q : Request) → leb q.reply 1 && (leb q.tx 1 && (wants_reply q || not (of_tx q))) ≡ true → says values q ≡ true → Means (read_done q)
  unfolding Means is_writable says
  said_means q f e r same =
      subst (λ (x : Request). (values ≡ sequence_of x) × (is_writable x ≡ true)) (ap (λ (x : Read). x.request) same)
      (said_own values q e, and_true (is_service q.service) _ (and_l (is_service q.service) _ e) f)

  none_means : (code : ℕ) → eqb code 0 ≡ false → Means (read_refused (pos code))
  unfolding Means is_accepted
  none_means code n r same = not_both (ap (λ (x : Read). is_accepted x.code) same) n

  means_written : Means (meaning_of values)
  unfolding meaning_of said_by
  means_written =
      by_test Means (said_means _ refl)
      (λ _. by_test Means (said_means _ refl) (λ _. by_test Means (said_means _ refl) (λ _. none_means 33 refl)))

module _ (input : List ℕ) (bytes : (i : ℕ) → get_or input i 0 < 256) (r : Request) (e : read_of input ≡ read_done r) where
  -- What the reader accepts is byte for byte what the writer writes of that meaning.
  pub read_bytes : (input ≡ bytes_of r) × (is_writable r ≡ true)
  unfolding read_of read_from Means is_accepted
  read_bytes = go (all_numbers input) refl
    where
      go : (ns : Numbers) → all_numbers input ≡ ns → (input ≡ bytes_of r) × (is_writable r ≡ true)
      go (numbers values next) f =
          let m = means_written values r (sym (ap read_from f) ∙ e) in
          ((all_read_written input bytes values next f).0 ∙ ap numbers_bytes m.0, m.1)
      go (stopped code) f =
          let x = sym (ap read_from f) ∙ e in
          ⊎_elim (λ h. not_both (ap (λ (y : Read). is_accepted y.code) x) (ap (λ (k : ℕ). eqb k 0) h))
          (λ h. not_both (ap (λ (y : Read). is_accepted y.code) x) (ap (λ (k : ℕ). eqb k 0) h))
          (all_stopped input code f)

  -- so the writer, given that meaning and room, tells the input's length and stores the input at the buffer's front
  pub read_is_written : (buffer : List ℕ) → length input ≤ length buffer
      → (wire_answer buffer r ≡ wrote (pos 0) (length input)) × (wire_buffer buffer r ≡ input ++ drop (length input) buffer)
  unfolding wire_answer wire_buffer as_written
  read_is_written buffer enough =
      let same = read_bytes.0 in
      let yes = read_bytes.1 in
      let long : 0 + length (bytes_of r) ≡ length input = let l = ap length same in omega arith in
      let room : 0 + length (bytes_of r) ≤ length buffer = omega arith in (
        pick_true _ _ _ yes ∙ ap as_written (sym (fit_answer buffer 0 (bytes_of r) room)) ∙ ap (wrote (pos 0)) long,
        pick_true _ _ _ yes
            ∙ sym (fit_list buffer 0 (bytes_of r) room)
            ∙ ap₂ (λ (l : List ℕ) (n : ℕ). l ++ drop n buffer) (sym same) long,
      )

-- A sequence has at most one meaning: requests that are written alike are the same.
pub one_meaning : (r s : Request) → is_writable r ≡ true → is_writable s ≡ true → r.token < 2 ^ 32 → s.token < 2 ^ 32 → bytes_of r ≡ bytes_of s → r ≡ s
one_meaning r s w x t u e = ap (λ (y : Read). y.request) (sym (bytes_read r w t) ∙ ap read_of e ∙ bytes_read s x u)

-- ---- refusals

-- The writer's code is 0 or a refusal, and a refusal has 0 beside its number.
pub write_refusal : (buffer : List ℕ) (r : Request)
    → ((wire_answer buffer r).code ≡ pos 0) ⊎ ((is_refusal (wire_answer buffer r).code ≡ true) × ((wire_answer buffer r).length ≡ 0))
unfolding wire_answer as_written is_refusal
write_refusal buffer r = by_test Told (λ _. fitting) (λ _. inr (refl, refl))
  where
    Told : Written → Type 0
    Told w = (w.code ≡ pos 0) ⊎ ((is_refusal w.code ≡ true) × (w.length ≡ 0))

    fitting : Told (as_written (write_answer buffer 0 (bytes_of r)))
    fitting =
        ⊎_elim
        (λ h. subst (λ (x : Writing). Told (as_written x)) (unfit_answer buffer 0 (bytes_of r) h) (inr (refl, refl)))
        (λ h. subst (λ (x : Writing). Told (as_written x)) (fit_answer buffer 0 (bytes_of r) h) (inl refl))
        (below_or_not (length buffer) (0 + length (bytes_of r)))

-- The reader's code is 0 or a refusal, and a refusal has zeros beside its number.
pub read_refusal : (input : List ℕ)
    → ((read_of input).code ≡ pos 0) ⊎ ((is_refusal (read_of input).code ≡ true) × ((read_of input).request ≡ no_request))
unfolding read_of read_from meaning_of said_by is_refusal
read_refusal input = go (all_numbers input) refl
  where
    Told : Read → Type 0
    Told x = (x.code ≡ pos 0) ⊎ ((is_refusal x.code ≡ true) × (x.request ≡ no_request))

    go : (ns : Numbers) → all_numbers input ≡ ns → Told (read_from ns)
    go (numbers values next) e = by_test Told (λ _. inl refl) (λ _. by_test Told (λ _. inl refl) (λ _. by_test Told (λ _. inl refl) (λ _. inr (refl, refl))))
    go (stopped code) e =
        ⊎_elim (λ h. inr (ap (λ (k : ℕ). is_refusal (pos k)) h, refl)) (λ h. inr (ap (λ (k : ℕ). is_refusal (pos k)) h, refl)) (all_stopped input code e)
