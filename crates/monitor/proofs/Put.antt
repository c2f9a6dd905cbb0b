-- What a store changes of the record: a link, a party or a number of the head alone.
-- Assumes nothing.
use Rattle.std.proofs.Common.{ℕ, zero, suc, ◌+◌, ◌*◌, ◌≤◌, ◌<◌, ◌≡◌, refl, ap, sym, ◌∙◌, List, [], ◌∷◌, le_of_suc-le-suc}
use Rattle.std.proofs.Common.{not-suc-le-zero, div-add-mod', arith, length, get_or, set, length-set, get_or-set_same, get_or-set_other, ext_get_or, eqb, eqb-true}
use Rattle.std.proofs.lemmas.Bool.{eqb-false}
use Rattle.std.proofs.lemmas.List.Edits.{sets}
use Rattle.rules.specs.declared.Party.{Party}
use Rattle.rules.specs.declared.Link.{Link}
use Rattle.rules.specs.declared.Monitor.{Monitor}
use Rattle.rules.specs.Record.{fresh_link, fresh_party, party, with_unread, with_reports, with_rights, offering, owning, with_clock, with_last_link, with_last_tx, with_party, with_count, replaced}
use Rattle.monitor.specs.Words.{head_size, party_size, link_size, party_base, link_base, words, link_words, low, high, party_words, stored_from, stored}
use Rattle.rules.proofs.Logic.{test}
use Rattle.monitor.specs.View.{link_at, party_at, link_in, view}
use Rattle.monitor.proofs.Laws.{links_long, parties_long, link_law, party_law}

-- ---- a run of stores: what stands before it, past it and in it
from_sets : (vs l : List ℕ) (at k : ℕ) → stored_from l at k vs ≡ sets l (at + k) vs
from_sets [] l at k = refl
from_sets (a ∷ vs) l at k = from_sets vs (set l (at + k) a) at (k + 1) ∙ ap (λ (n : ℕ). sets (set l (at + k) a) n vs) (omega arith)

stored_sets : (vs l : List ℕ) (at : ℕ) → stored l at vs ≡ sets l at vs
stored_sets [] l at = refl
stored_sets (a ∷ vs) l at = from_sets vs (set l at a) at 1 ∙ ap (λ (n : ℕ). sets (set l at a) n vs) (omega arith)

-- elsewhere nothing changes
sets_other : (vs l : List ℕ) (i k : ℕ) → (i ≤ k → k < i + length vs → ⊥) → get_or (sets l i vs) k 0 ≡ get_or l k 0
sets_other [] l i k out = refl
sets_other (a ∷ vs) l i k out =
    sets_other vs (set l i a) (suc i) k (λ p q. out (omega arith) (omega arith)) ∙ get_or-set_other l i k a 0 (λ e. out (omega (arith, e)) (omega (arith, e)))

sets_within : (vs l : List ℕ) (i j : ℕ) → j < length vs → i + length vs ≤ length l → get_or (sets l i vs) (i + j) 0 ≡ get_or vs j 0
sets_within [] l i j h k = absurd (not-suc-le-zero h)
sets_within (a ∷ vs) l i zero h k =
    ap (λ (n : ℕ). get_or (sets (set l i a) (suc i) vs) n 0) (omega arith)
    ∙ sets_other vs (set l i a) (suc i) i (λ p q. omega arith) ∙ get_or-set_same l i a 0 (omega arith)
sets_within (a ∷ vs) l i (suc j) h k =
    let e : i + suc j ≡ suc i + j = omega arith in
    let n = length-set l i a in
    ap (λ (n : ℕ). get_or (sets (set l i a) (suc i) vs) n 0) e ∙ sets_within vs (set l i a) (suc i) j (le_of_suc-le-suc h) (omega (arith, n))

-- the same numbers at the places from a up to b
abbrev Same : List ℕ → List ℕ → ℕ → ℕ → Type 0
Same ys xs a b = (k : ℕ) → a ≤ k → k < b → get_or ys k 0 ≡ get_or xs k 0

module _ (vs xs : List ℕ) (at : ℕ) where
  other : (k : ℕ) → (at ≤ k → k < at + length vs → ⊥) → get_or (stored xs at vs) k 0 ≡ get_or xs k 0
  other k out = ap (λ (l : List ℕ). get_or l k 0) (stored_sets vs xs at) ∙ sets_other vs xs at k out

  within : (j : ℕ) → j < length vs → at + length vs ≤ length xs → get_or (stored xs at vs) (at + j) 0 ≡ get_or vs j 0
  within j h k = ap (λ (l : List ℕ). get_or l (at + j) 0) (stored_sets vs xs at) ∙ sets_within vs xs at j h k

  within_first : 0 < length vs → at + length vs ≤ length xs → get_or (stored xs at vs) at 0 ≡ get_or vs 0 0
  within_first h k = ap (λ (n : ℕ). get_or (stored xs at vs) n 0) (omega arith) ∙ within 0 h k

-- ---- a run of words that is read, and what it makes: a link, a party, the record's head
-- n words from the place at + k on
unfoldable pub words_from : List ℕ → ℕ → ℕ → ℕ → List ℕ
words_from xs at k zero = []
words_from xs at k (suc n) = get_or xs (at + k) 0 ∷ words_from xs at (k + 1) n

-- from at on, as the code reads the places: at, at + 1, at + 2
unfoldable pub words_at : List ℕ → ℕ → ℕ → List ℕ
words_at xs at zero = []
words_at xs at (suc n) = get_or xs at 0 ∷ words_from xs at 1 n

link_from : List ℕ → Link
link_from ws = record {
  number = get_or ws 0 0;
  kind = get_or ws 1 0;
  originator = get_or ws 2 0;
  attached = get_or ws 3 0;
  service = get_or ws 4 0;
  tx = get_or ws 5 0;
  state = get_or ws 6 0;
  server = get_or ws 7 0;
  first = get_or ws 8 0;
  outcome = get_or ws 9 0;
  ending = get_or ws 10 0;
  sender = get_or ws 11 0;
  granting = get_or ws 12 0;
  disconnected = get_or ws 13 0;
  unread = get_or ws 14 0 ∷ get_or ws 15 0 ∷ get_or ws 16 0 ∷ get_or ws 17 0 ∷ [];
  filled = get_or ws 18 0;
}

party_from : List ℕ → Party
party_from ws = record {
  opened = get_or ws 0 0;
  control = get_or ws 1 0;
  timeout = get_or ws 2 0;
  services = get_or ws 3 0 + get_or ws 4 0 * 4294967296;
  owned = get_or ws 5 0;
  deadline = get_or ws 6 0 + get_or ws 7 0 * 4294967296;
  rollbackonly = get_or ws 8 0;
  served = get_or ws 9 0;
  reports = get_or ws 10 0 ∷ get_or ws 11 0 ∷ get_or ws 12 0 ∷ get_or ws 13 0 ∷ [];
  mayrequest = get_or ws 14 0 + get_or ws 15 0 * 4294967296;
  mayadvertise = get_or ws 16 0 + get_or ws 17 0 * 4294967296;
}

head_from : List ℕ → List Party → List Link → Monitor
head_from ws ps ls = record { clock = get_or ws 0 0; lastlink = get_or ws 1 0; lasttx = get_or ws 2 0; parties = ps; links = ls; count = get_or ws 3 0 }

abbrev head_at : List ℕ → List ℕ
head_at xs = words_from xs 0 0 head_size

link_made : (xs : List ℕ) (i : ℕ) → link_at xs i ≡ link_from (words_at xs (link_base i) link_size)
unfolding link_at link_from words_at words_from
link_made xs i = refl

party_made : (xs : List ℕ) (p : ℕ) → party_at xs p ≡ party_from (words_at xs (party_base p) party_size)
unfolding party_at party_from words_at words_from
party_made xs p = refl

-- what was stored is read
words_from_is : (ys ws : List ℕ) (at k : ℕ) → ((j : ℕ) → j < length ws → get_or ys (at + (k + j)) 0 ≡ get_or ws j 0) → words_from ys at k (length ws) ≡ ws
unfolding words_from
words_from_is ys [] at k g = refl
words_from_is ys (w ∷ ws) at k g =
    let here : get_or ys (at + k) 0 ≡ w = ap (λ (n : ℕ). get_or ys n 0) (omega arith) ∙ g 0 (omega arith) in
    λ z. here z ∷ words_from_is ys ws at (k + 1) (λ j h. ap (λ (n : ℕ). get_or ys n 0) (omega arith) ∙ g (suc j) (omega arith)) z

stored_words : (vs xs : List ℕ) (at : ℕ) → at + length vs ≤ length xs → words_at (stored xs at vs) at (length vs) ≡ vs
unfolding words_at
stored_words [] xs at h = refl
stored_words (v ∷ vs) xs at h =
    let here = within_first (v ∷ vs) xs at (omega arith) h in
    let ys = stored xs at (v ∷ vs) in
    λ z. here z ∷ words_from_is ys vs at 1 (λ j g. ap (λ (n : ℕ). get_or ys (at + n) 0) (omega arith) ∙ within (v ∷ vs) xs at (suc j) (omega arith) h) z

-- ---- lists with the same at each place, and at each but one
module _ {A : Type 0} (d : A) (xs ys : List A) (n : ℕ) (la : length xs ≡ n) (lb : length ys ≡ n) where
  alike : ((k : ℕ) → k < n → get_or xs k d ≡ get_or ys k d) → xs ≡ ys
  alike g = ext_get_or d xs ys (la ∙ sym lb) (λ k h. g k (omega arith))

  but_one : (i : ℕ) (x : A) → i < n → get_or xs i d ≡ x → ((k : ℕ) → k < n → (k ≡ i → ⊥) → get_or xs k d ≡ get_or ys k d) → xs ≡ set ys i x
  but_one i x h e g =
      ext_get_or d xs (set ys i x) (la ∙ sym (length-set ys i x ∙ lb)) (λ k l. test (eqb k i)
      (λ t. let q = eqb-true k i t in rw q (e ∙ sym (get_or-set_same ys i x d (omega arith))))
      (λ f. let q = eqb-false k i f in g k (omega arith) q ∙ sym (get_or-set_other ys i k x d (λ r. q (omega arith)))))

-- ---- the same numbers make the same links and parties
module _ (ys xs : List ℕ) where
  words_from_alike : (n at k : ℕ) → Same ys xs (at + k) (at + k + n) → words_from ys at k n ≡ words_from xs at k n
  unfolding words_from
  words_from_alike zero at k g = refl
  words_from_alike (suc n) at k g = λ z. g (at + k) (omega arith) (omega arith) z ∷ words_from_alike n at (k + 1) (λ j a b. g j (omega arith) (omega arith)) z

  words_at_alike : (n at : ℕ) → Same ys xs at (at + n) → words_at ys at n ≡ words_at xs at n
  unfolding words_at
  words_at_alike zero at g = refl
  words_at_alike (suc n) at g = λ z. g at (omega arith) (omega arith) z ∷ words_from_alike n at 1 (λ j a b. g j (omega arith) (omega arith)) z

  head_alike : Same ys xs 0 head_size → head_at ys ≡ head_at xs
  head_alike g = words_from_alike head_size 0 0 g

  link_alike : (i : ℕ) → i < 32 → Same ys xs (link_base i) (link_base i + link_size) → link_in (view ys) i ≡ link_in (view xs) i
  link_alike i h g =
      link_law ys i h ∙ link_made ys i ∙ ap link_from (words_at_alike link_size (link_base i) g) ∙ sym (link_law xs i h ∙ link_made xs i)

  party_alike : (p : ℕ) → p < 16 → Same ys xs (party_base p) (party_base p + party_size) → party (view ys) p ≡ party (view xs) p
  party_alike p h g =
      party_law ys p h ∙ party_made ys p ∙ ap party_from (words_at_alike party_size (party_base p) g) ∙ sym (party_law xs p h ∙ party_made xs p)

  links_alike : Same ys xs (link_base 0) words → (view ys).links ≡ (view xs).links
  links_alike g = alike fresh_link _ _ 32 (links_long 32 0 ys) (links_long 32 0 xs) (λ k h. link_alike k h (λ w a b. g w (omega arith) (omega arith)))

  parties_alike : Same ys xs (party_base 0) (party_base 16) → (view ys).parties ≡ (view xs).parties
  parties_alike g = alike fresh_party _ _ 16 (parties_long 16 0 ys) (parties_long 16 0 xs) (λ k h. party_alike k h (λ w a b. g w (omega arith) (omega arith)))

-- ---- four numbers, as a link's tokens and a party's reports are
four : (u : List ℕ) → length u ≡ 4 → get_or u 0 0 ∷ get_or u 1 0 ∷ get_or u 2 0 ∷ get_or u 3 0 ∷ [] ≡ u
four (a ∷ b ∷ c ∷ d ∷ []) h = refl
four _ h = absurd (omega arith)

-- ---- a link
module _ (xs : List ℕ) (i : ℕ) (l : Link) (n : length xs ≡ words) (h : i < 32) (u : length l.unread ≡ 4) where
  abbrev ys : List ℕ
  ys = stored xs (link_base i) (link_words l)

  link_there : link_at ys i ≡ l
  unfolding link_from
  link_there =
      let f = four l.unread u in
      link_made ys i ∙ ap link_from (stored_words (link_words l) xs (link_base i) (omega arith)) ∙ (λ z. with_unread l l.sender l.granting (f z) l.filled)

  link_stored : view ys ≡ replaced (view xs) i l
  unfolding words_from head_from
  link_stored =
      let same = other (link_words l) xs (link_base i) in
      let hs = head_alike ys xs (λ k a b. same k (λ c d. omega arith)) in
      let ps = parties_alike ys xs (λ k a b. same k (λ c d. omega arith)) in
      let ls = but_one fresh_link (view ys).links (view xs).links 32 (links_long 32 0 ys) (links_long 32 0 xs) i l h (link_law ys i h ∙ link_there)
      (λ k g ne. link_alike ys xs k g (λ w a b. same w (λ c d. ne (omega arith)))) in
      λ z. head_from (hs z) (ps z) (ls z)

  pub put_link_law : (r : List ℕ) → r ≡ stored xs (link_base i) (link_words l) → view r ≡ replaced (view xs) i l
  put_link_law r e = ap view e ∙ link_stored

-- ---- a party
halves : (x : ℕ) → low x + high x * 4294967296 ≡ x
halves x = let d = div-add-mod' x 4294967296 in omega arith

module _ (xs : List ℕ) (p : ℕ) (q : Party) (n : length xs ≡ words) (h : p < 16) (u : length q.reports ≡ 4) where
  abbrev ws : List ℕ
  ws = party_words q

  abbrev zs : List ℕ
  zs = stored xs (party_base p) ws

  party_there : party_at zs p ≡ q
  unfolding party_from
  party_there =
      let f = four q.reports u in
      party_made zs p ∙ ap party_from (stored_words ws xs (party_base p) (omega arith))
      ∙ (λ z. with_rights (with_reports (offering (owning q q.owned (halves q.deadline z)) (halves q.services z)) (f z)) (halves q.mayrequest z) (halves q.mayadvertise z))

  party_stored : view zs ≡ with_party (view xs) p q
  unfolding words_from head_from
  party_stored =
      let same = other ws xs (party_base p) in
      let hs = head_alike zs xs (λ k a b. same k (λ c d. omega arith)) in
      let ps = but_one fresh_party (view zs).parties (view xs).parties 16 (parties_long 16 0 zs) (parties_long 16 0 xs) p q h (party_law zs p h ∙ party_there)
      (λ k g ne. party_alike zs xs k g (λ w a b. same w (λ c d. ne (omega arith)))) in
      let ls = links_alike zs xs (λ k a b. same k (λ c d. omega arith)) in
      λ z. head_from (hs z) (ps z) (ls z)

  pub put_party_law : (r : List ℕ) → r ≡ stored xs (party_base p) (party_words q) → view r ≡ with_party (view xs) p q
  put_party_law r e = ap view e ∙ party_stored

-- ---- a number of the head
-- a number stored at a place of a run
words_from_set : (xs : List ℕ) (v at p n k i : ℕ) → p ≡ at + (k + i) → i < n → p < length xs → words_from (set xs p v) at k n ≡ set (words_from xs at k n) i v
unfolding words_from
words_from_set xs v at p zero k i e h l = absurd (omega arith)
words_from_set xs v at p (suc n) k zero e h l =
    let here : get_or (set xs p v) (at + k) 0 ≡ v = ap (λ (j : ℕ). get_or (set xs p v) j 0) (omega (arith, e)) ∙ get_or-set_same xs p v 0 l in
    λ z. here z ∷ words_from_alike (set xs p v) xs n at (k + 1) (λ j a b. get_or-set_other xs p j v 0 (λ q. omega (arith, e, q))) z
words_from_set xs v at p (suc n) k (suc i) e h l =
    let here = get_or-set_other xs p (at + k) v 0 (λ q. omega (arith, e, q)) in
    λ z. here z ∷ words_from_set xs v at p n (k + 1) i (omega (arith, e)) (omega arith) l z

module _ (xs : List ℕ) (v : ℕ) (n : length xs ≡ words) where
  head_stored : (i : ℕ) → i < head_size → view (set xs i v) ≡ head_from (set (head_at xs) i v) (view xs).parties (view xs).links
  unfolding words_from head_from
  head_stored i h =
      let same : (k : ℕ) → head_size ≤ k → get_or (set xs i v) k 0 ≡ get_or xs k 0 = λ k a. get_or-set_other xs i k v 0 (λ e. omega (arith, e)) in
      let hs = words_from_set xs v 0 i head_size 0 i (omega arith) h (omega arith) in
      let ps = parties_alike (set xs i v) xs (λ k a b. same k (omega arith)) in
      let ls = links_alike (set xs i v) xs (λ k a b. same k (omega arith)) in
      λ z. head_from (hs z) (ps z) (ls z)

  pub set_clock_law : view (set xs 0 v) ≡ with_clock (view xs) v
  unfolding words_from head_from
  set_clock_law = head_stored 0 (omega arith)

  pub set_last_link_law : view (set xs 1 v) ≡ with_last_link (view xs) v
  unfolding words_from head_from
  set_last_link_law = head_stored 1 (omega arith)

  pub set_last_tx_law : view (set xs 2 v) ≡ with_last_tx (view xs) v
  unfolding words_from head_from
  set_last_tx_law = head_stored 2 (omega arith)

  pub set_count_law : view (set xs 3 v) ≡ with_count (view xs) v
  unfolding words_from head_from
  set_count_law = head_stored 3 (omega arith)
