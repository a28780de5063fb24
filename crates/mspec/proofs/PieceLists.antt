-- SPDX-License-Identifier: Apache-2.0
-- A text has one list of pieces, and the leftmost cut gives it.
use Rattle.mspec.proofs.SpecWords.{◌≡◌, ◌≢◌, ℕ, zero, suc, ◌-◌, ◌≤◌, ◌<◌, Bool, true, false, List, [], ◌∷◌, ◌++◌, length, drop, refl, sym, ap, subst, ◌∙◌, ◌⊎◌}
use Rattle.mspec.proofs.SpecWords.{inl, inr, arith, onto_first, eqb, and_parts, eqb-true, eq-eqb, cases_lt, append_cancel_left, append_cancel_right, append-nil}
use Rattle.mspec.proofs.SpecWords.{drop-append_seam, join, Lacks, OnlyAtEnd, AreCut, ArePieces, begins_with, cut_after, pieces_of, OneList, cond, append_assoc}
use Rattle.mspec.proofs.SpecWords.{length-append}

-- ---- texts

-- of two splits of a text, the shorter front begins the longer one
pub longer_front : (a b c e : List ℕ) → a ++ b ≡ c ++ e → length a ≤ length c → (m : List ℕ) × (c ≡ a ++ m) × (b ≡ m ++ e)
longer_front [] b c e same le = (c, refl, same)
longer_front (x ∷ a) b [] e same le = absurd (omega arith)
longer_front (x ∷ a) b (y ∷ c) e same le =
    let tails : a ++ b ≡ c ++ e = cc in
    let heads : x ≡ y = cc in
    let m = longer_front a b c e tails (omega arith) in
    (m.0, cc (m.1, heads), m.2)

-- an append that adds nothing
pub nothing_added : (a m : List ℕ) → length (a ++ m) ≤ length a → m ≡ []
nothing_added a [] le = refl
nothing_added a (x ∷ m) le = absurd (omega (arith, length-append a (x ∷ m)))

pub begins_split : (d s : List ℕ) → begins_with d s ≡ true → (rest : List ℕ) × (s ≡ d ++ rest)
begins_split [] s yes' = (s, refl)
begins_split (x ∷ d) [] yes' = absurd cc
begins_split (x ∷ d) (y ∷ s) yes' =
    let parts = and_parts (eqb x y) (begins_with d s) yes' in
    let same : x ≡ y = eqb-true x y parts.0 in
    let rest = begins_split d s parts.1 in
    (rest.0, cc (rest.1, same))

pub begins_append : (d rest : List ℕ) → begins_with d (d ++ rest) ≡ true
begins_append [] rest = refl
begins_append (x ∷ d) rest = rw (eq-eqb x x refl) (begins_append d rest)

-- ---- one list

-- the first of two lists of pieces of a text is no longer than the other's, and so is the same
same_first : (d p q r t : List ℕ) → OnlyAtEnd d (q ++ d) → p ++ (d ++ r) ≡ q ++ (d ++ t) → length p ≤ length q → p ≡ q
same_first d p q r t ends same le =
    let whole : (p ++ d) ++ r ≡ (q ++ d) ++ t = append_assoc p d r ∙ same ∙ sym (append_assoc q d t) in
    let m = longer_front (p ++ d) r (q ++ d) t whole (omega (arith, length-append p d, length-append q d)) in
    let none : m.0 ≡ [] = ends p m.0 (m.1 ∙ append_assoc p d m.0) in
    append_cancel_right p q d (sym (m.1 ∙ ap (λ x. (p ++ d) ++ x) none ∙ append-nil (p ++ d)))

firsts : (d p q r t : List ℕ) → OnlyAtEnd d (p ++ d) → OnlyAtEnd d (q ++ d) → p ++ (d ++ r) ≡ q ++ (d ++ t) → (length p < length q) ⊎ (length q ≤ length p) → (p ≡ q) × (r ≡ t)
firsts d p q r t at_p at_q same (inl le) =
    let e = same_first d p q r t at_q same (omega arith) in
    (e, append_cancel_left d r t (append_cancel_left q (d ++ r) (d ++ t) (subst (λ x. x ++ (d ++ r) ≡ q ++ (d ++ t)) e same)))
firsts d p q r t at_p at_q same (inr le) =
    let e = same_first d q p t r at_p (sym same) le in
    (sym e, append_cancel_left d r t (append_cancel_left p (d ++ r) (d ++ t) (subst (λ x. p ++ (d ++ r) ≡ x ++ (d ++ t)) e same)))

same_pieces : (d : List ℕ) (ps qs : List (List ℕ)) → AreCut d ps → AreCut d qs → join d ps ≡ join d qs → ps ≡ qs
same_pieces d [] qs at_p at_q same = absurd at_p
same_pieces d (p ∷ []) [] at_p at_q same = absurd at_q
same_pieces d (p ∷ []) (q ∷ []) at_p at_q same = ap (λ x. x ∷ []) same
same_pieces d (p ∷ []) (q ∷ q' ∷ qs) at_p at_q same = absurd (at_p q (join d (q' ∷ qs)) same)
same_pieces d (p ∷ p' ∷ ps) [] at_p at_q same = absurd at_q
same_pieces d (p ∷ p' ∷ ps) (q ∷ []) at_p at_q same = absurd (at_q p (join d (p' ∷ ps)) (sym same))
same_pieces d (p ∷ p' ∷ ps) (q ∷ q' ∷ qs) at_p at_q same =
    let both = firsts d p q (join d (p' ∷ ps)) (join d (q' ∷ qs)) at_p.0 at_q.0 same (cases_lt (length p) (length q)) in
    let rest : (p' ∷ ps) ≡ (q' ∷ qs) = same_pieces d (p' ∷ ps) (q' ∷ qs) at_p.1 at_q.1 both.1 in
    let first = both.0 in
    cc

-- ---- the cut gives them

-- a text that doesn't begin with d is not d with something after it
pub not_begun : (d s after : List ℕ) → begins_with d s ≡ false → s ≢ d ++ after
not_begun d s after no' e = let begun : begins_with d s ≡ true = ap (begins_with d) e ∙ begins_append d after in absurd cc

pub lacks_more : (d : List ℕ) (x : ℕ) (s : List ℕ) → Lacks d s → begins_with d (x ∷ s) ≡ false → Lacks d (x ∷ s)
lacks_more d x s lacks no' [] after e = not_begun d (x ∷ s) after no' e
lacks_more d x s lacks no' (y ∷ before) after e = lacks before after cc

ends_more : (d : List ℕ) (x : ℕ) (p r : List ℕ) → OnlyAtEnd d (p ++ d) → begins_with d (x ∷ (p ++ (d ++ r))) ≡ false → OnlyAtEnd d ((x ∷ p) ++ d)
ends_more d x p r ends no' [] after e =
    absurd (not_begun d (x ∷ (p ++ (d ++ r))) (after ++ r) no' (ap (λ t. x ∷ t) (sym (append_assoc p d r)) ∙ ap (λ t. t ++ r) e ∙ append_assoc d after r))
ends_more d x p r ends no' (y ∷ before) after e = ends before after cc

cut_onto : (d : List ℕ) (x : ℕ) (s : List ℕ) (ps : List (List ℕ)) → ArePieces d s ps → begins_with d (x ∷ s) ≡ false → ArePieces d (x ∷ s) (onto_first x ps)
cut_onto d x s [] are no' = absurd are.cut
cut_onto d x s (p ∷ []) are no' = record {
  joined = ap (λ t. x ∷ t) are.joined;
  cut = lacks_more d x p are.cut (subst (λ t. begins_with d (x ∷ t) ≡ false) (sym are.joined) no');
}
cut_onto d x s (p ∷ q ∷ ps) are no' = record {
  joined = ap (λ t. x ∷ t) are.joined;
  cut = (ends_more d x p (join d (q ∷ ps)) are.cut.0 (subst (λ t. begins_with d (x ∷ t) ≡ false) (sym are.joined) no'), are.cut.1);
}

-- a delimiter at the front, before the pieces of the rest
cut_front : (d rest : List ℕ) (ps : List (List ℕ)) → ArePieces d rest ps → ArePieces d (d ++ rest) ([] ∷ ps)
cut_front d rest [] are = absurd are.cut
cut_front d rest (p ∷ ps) are = record {
  joined = ap (λ t. d ++ t) are.joined;
  cut = (λ before after e. nothing_added d after (omega (arith, ap length e, length-append before (d ++ after))), are.cut);
}

-- the cut at a character, where b says whether the delimiter begins there
cut_step : (c : ℕ) (d : List ℕ) (x : ℕ) (s : List ℕ) (b : Bool) → begins_with (c ∷ d) (x ∷ s) ≡ b
    → ((left : ℕ) → ArePieces (c ∷ d) (drop left s) (cut_after left (c ∷ d) s))
    → ArePieces (c ∷ d) (x ∷ s) (cond b ([] ∷ cut_after (length (c ∷ d) - 1) (c ∷ d) s) (onto_first x (cut_after 0 (c ∷ d) s)))
cut_step c d x s false is are = cut_onto (c ∷ d) x s (cut_after 0 (c ∷ d) s) (are 0) is
cut_step c d x s true is are =
    let split = begins_split (c ∷ d) (x ∷ s) is in
    let n : length (c ∷ d) - 1 ≡ length d = omega arith in
    let tail : s ≡ d ++ split.0 = cc (split.1) in
    let rest : drop (length (c ∷ d) - 1) s ≡ split.0 = ap (λ (k : ℕ). drop k s) n ∙ (ap (λ (t : List ℕ). drop (length d) t) tail ∙ drop-append_seam d split.0) in
    let ps = cut_after (length (c ∷ d) - 1) (c ∷ d) s in
    subst (λ t. ArePieces (c ∷ d) t ([] ∷ ps)) (sym split.1) (cut_front (c ∷ d) split.0 ps (subst (λ t. ArePieces (c ∷ d) t ps) rest (are (length (c ∷ d) - 1))))

cut_are : (c : ℕ) (d s : List ℕ) (left : ℕ) → ArePieces (c ∷ d) (drop left s) (cut_after left (c ∷ d) s)
cut_are c d [] zero = record { joined = refl; cut = λ before after e. absurd (omega (arith, ap length e, length-append before ((c ∷ d) ++ after))) }
cut_are c d [] (suc left) = record { joined = refl; cut = λ before after e. absurd (omega (arith, ap length e, length-append before ((c ∷ d) ++ after))) }
cut_are c d (x ∷ s) (suc left) = cut_are c d s left
cut_are c d (x ∷ s) zero = cut_step c d x s (begins_with (c ∷ d) (x ∷ s)) refl (cut_are c d s)

pieces_are : (d s : List ℕ) → d ≢ [] → ArePieces d s (pieces_of d s)
unfolding pieces_of
pieces_are [] s some = absurd (some refl)
pieces_are (c ∷ d) s some = cut_are c d s 0

pub one_list : OneList
one_list d s some = (pieces_are d s some, λ ps qs are_p are_q. same_pieces d ps qs are_p.cut are_q.cut (are_p.joined ∙ sym are_q.joined))
