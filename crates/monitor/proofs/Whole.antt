-- The view is the entire record: two lists of `words` numbers below 2^32 with equal views are equal.
-- Assumes nothing.
use Rattle.std.proofs.Common.{ℕ, zero, suc, ◌+◌, ◌-◌, ◌/◌, ◌%◌, ◌≤◌, ◌<◌, ◌≡◌, refl, ap, sym, ◌∙◌, List}
use Rattle.std.proofs.Common.{[], ◌∷◌, arith, ltb-true, ltb-false, ltb, length, get_or, ext_get_or, rules}
use Rattle.rules.specs.declared.Monitor.{Monitor}
use Rattle.rules.specs.Record.{party}
use Rattle.rules.proofs.Logic.{test}
use Rattle.monitor.specs.Words.{head_size, party_size, link_size, party_base, link_base, words, link_words, party_words}
use Rattle.monitor.specs.View.{WordsOf, link_at, party_at, link_in, view}
use Rattle.monitor.proofs.Laws.{link_law, party_law}
use Rattle.monitor.proofs.Put.{words_from, words_at}

-- the numbers of a run
word_from : (xs : List ℕ) (at k n j : ℕ) → j < n → get_or (words_from xs at k n) j 0 ≡ get_or xs (at + (k + j)) 0
unfolding words_from
word_from xs at k zero j h = absurd (omega arith)
word_from xs at k (suc n) zero h = ap (λ (i : ℕ). get_or xs (at + i) 0) (omega arith)
word_from xs at k (suc n) (suc j) h = word_from xs at (k + 1) n j (omega arith) ∙ ap (λ (i : ℕ). get_or xs (at + i) 0) (omega arith)

word_at : (xs : List ℕ) (at n j : ℕ) → j < n → get_or (words_at xs at n) j 0 ≡ get_or xs (at + j) 0
unfolding words_at
word_at xs at zero j h = absurd (omega arith)
word_at xs at (suc n) zero h = ap (λ (i : ℕ). get_or xs i 0) (omega arith)
word_at xs at (suc n) (suc j) h = word_from xs at 1 n j (omega arith) ∙ ap (λ (i : ℕ). get_or xs (at + i) 0) (omega arith)

words_alike : (xs ys : List ℕ) (at n j : ℕ) {k : ℕ} → k ≡ at + j → j < n → words_at xs at n ≡ words_at ys at n → get_or xs k 0 ≡ get_or ys k 0
words_alike xs ys at n j d h e = rw d (sym (word_at xs at n j h) ∙ ap (λ (ws : List ℕ). get_or ws j 0) e ∙ word_at ys at n j h)

-- the head's numbers, of the record
abbrev head_words : Monitor → List ℕ
head_words m = m.clock ∷ m.lastlink ∷ m.lasttx ∷ m.count ∷ []

head_words_lem : (xs : List ℕ) → head_words (view xs) ≡ words_at xs 0 head_size
unfolding words_at words_from
head_words_lem xs = refl

-- a link's numbers, of the link
link_words_lem : (xs : List ℕ) (i : ℕ) → link_words (link_at xs i) ≡ words_at xs (link_base i) link_size
unfolding link_at words_at words_from
link_words_lem xs i = refl

-- a party's numbers, of the party
party_words_lem : (xs : List ℕ) → WordsOf xs → (p : ℕ) → p < 16 → party_words (party_at xs p) ≡ words_at xs (party_base p) party_size
unfolding party_at words_at words_from
party_words_lem xs a p h = search rules

module _ (xs ys : List ℕ) (a : WordsOf xs) (b : WordsOf ys) (e : view xs ≡ view ys) where
  same_link_lem : (i : ℕ) → i < 32 → link_at xs i ≡ link_at ys i
  same_link_lem i h = sym (link_law xs i h) ∙ ap (λ (m : Monitor). link_in m i) e ∙ link_law ys i h

  same_party_lem : (p : ℕ) → p < 16 → party_at xs p ≡ party_at ys p
  same_party_lem p h = sym (party_law xs p h) ∙ ap (λ (m : Monitor). party m p) e ∙ party_law ys p h

  in_head : (k : ℕ) → k < head_size → get_or xs k 0 ≡ get_or ys k 0
  in_head k h = search rules

  in_parties : (k : ℕ) → party_base 0 ≤ k → k < party_base 16 → get_or xs k 0 ≡ get_or ys k 0
  in_parties k g h =
      let p : ℕ = (k - head_size) / party_size in
      words_alike xs ys (party_base p) party_size ((k - head_size) % party_size) (omega arith) (omega arith)
      (sym (party_words_lem xs a p (omega arith)) ∙ ap party_words (same_party_lem p (omega arith)) ∙ party_words_lem ys b p (omega arith))

  in_links : (k : ℕ) → link_base 0 ≤ k → k < words → get_or xs k 0 ≡ get_or ys k 0
  in_links k g h =
      let i : ℕ = (k - link_base 0) / link_size in
      words_alike xs ys (link_base i) link_size ((k - link_base 0) % link_size) (omega arith) (omega arith)
      (sym (link_words_lem xs i) ∙ ap link_words (same_link_lem i (omega arith)) ∙ link_words_lem ys i)

  at_place : (k : ℕ) → k < length xs → get_or xs k 0 ≡ get_or ys k 0
  at_place k h = test (ltb k head_size)
      (λ q. in_head k (ltb-true k head_size q))
      (λ q. test (ltb k (link_base 0))
      (λ r. in_parties k (ltb-false k head_size q) (ltb-true k (link_base 0) r))
      (λ r. in_links k (ltb-false k (link_base 0) r) (omega (arith, a.long))))

  pub view_injective : xs ≡ ys
  view_injective = ext_get_or 0 xs ys (a.long ∙ sym b.long) at_place
