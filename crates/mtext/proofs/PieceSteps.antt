-- SPDX-License-Identifier: Apache-2.0
-- Passing over the pieces of a text by a search for the delimiter.
use Rattle.mtext.proofs.TextWords.{◌≡◌, ◌≢◌, ℕ, ◌+◌, ◌≤◌, ◌<◌, List, ◌∷◌, ◌++◌, length, take, drop, Some, None, refl, sym, ap, subst, ◌∙◌, arith, append_assoc}
use Rattle.mtext.proofs.TextWords.{append-nil, length-take-le, length-drop, take-append-drop, true, eqb, [], take-length, take-nil, drop-nil, OccursAt}
use Rattle.mtext.proofs.TextWords.{FindsNeedle, OccursAt-part, OccursAt-split, join, Lacks, OnlyAtEnd, ArePieces, pieces_of, one_list, closed, IsBehind}
use Rattle.mtext.proofs.TextWords.{eqb-true, length-append, take_all, drop-drop, take-add}
use Rattle.std.proofs.lemmas.List.Concat.{flat_map-append}
use Rattle.mtext.proofs.FoundPlaces.{occurs_behind}

-- ---- the pieces from the first place of the delimiter

-- one piece more
cons_are : (d p rest : List ℕ) (ps : List (List ℕ)) → OnlyAtEnd d (p ++ d) → ArePieces d rest ps → ArePieces d (p ++ (d ++ rest)) (p ∷ ps)
cons_are d p rest [] ends are = absurd are.cut
cons_are d p rest (q ∷ ps) ends are = record { joined = ap (λ t. p ++ (d ++ t)) are.joined; cut = (ends, are.cut) }

-- d is only at the end of the text up to the first d in s
ends_at_first : (d s : List ℕ) (k : ℕ) → FindsNeedle s d 0 (Some k) → OnlyAtEnd d (take k s ++ d)
ends_at_first d s k finds before [] e = refl
ends_at_first d s k finds before (y ∷ after) e =
    let fits = finds.1.fits in
    let front = length-take-le k s (omega arith) in
    let rest = drop (k + length d) s in
    let whole : s ≡ before ++ (d ++ ((y ∷ after) ++ rest)) =
    sym (take-append-drop k s) ∙ ap (λ t. take k s ++ t) (OccursAt-split s d k finds.1) ∙ sym (append_assoc (take k s) d rest)
    ∙ ap (λ t. t ++ rest) e ∙ append_assoc before (d ++ (y ∷ after)) rest ∙ ap (λ t. before ++ t) (append_assoc d (y ∷ after) rest) in
    let occurs : OccursAt s d (length before) = subst (λ t. OccursAt t d (length before)) (sym whole) (occurs_behind before d ((y ∷ after) ++ rest)) in
    absurd (finds.0.before (length before) (omega arith)
    (omega (arith, ap length e, length-append (take k s) d, length-append before (d ++ (y ∷ after)), length-append d (y ∷ after))) occurs)

pub pieces_first : (d s : List ℕ) (k : ℕ) → d ≢ [] → FindsNeedle s d 0 (Some k) → pieces_of d s ≡ take k s ∷ pieces_of d (drop (k + length d) s)
pieces_first d s k some finds =
    let rest = drop (k + length d) s in
    let whole : take k s ++ (d ++ rest) ≡ s = ap (λ t. take k s ++ t) (sym (OccursAt-split s d k finds.1)) ∙ take-append-drop k s in
    let law = one_list d s some in
    law.1 (pieces_of d s) (take k s ∷ pieces_of d rest) law.0
    (subst (λ t. ArePieces d t (take k s ∷ pieces_of d rest)) whole
    (cons_are d (take k s) rest (pieces_of d rest) (ends_at_first d s k finds) (one_list d rest some).0))

pub pieces_last : (d s : List ℕ) → d ≢ [] → FindsNeedle s d 0 None → pieces_of d s ≡ s ∷ []
pieces_last d s some finds =
    let law = one_list d s some in
    let lacks : Lacks d s = λ before after e.
    finds (length before) (omega arith) (omega (arith, ap length e, length-append before (d ++ after)))
    (subst (λ t. OccursAt t d (length before)) (sym e) (occurs_behind before d after)) in
    law.1 (pieces_of d s) (s ∷ []) law.0 (record { joined = refl; cut = lacks })

pub join_pieces : (d s : List ℕ) → d ≢ [] → join d (pieces_of d s) ≡ s
join_pieces d s some = (one_list d s some).0.joined

-- ---- lists

pub take_one_more : (ps qs : List (List ℕ)) (p : List ℕ) (n : ℕ) → drop n ps ≡ p ∷ qs → take (n + 1) ps ≡ take n ps ++ p ∷ []
take_one_more ps qs p n e = take-add n 1 ps ∙ ap (λ (t : List (List ℕ)). take n ps ++ take 1 t) e

drop_one_more : (ps qs : List (List ℕ)) (p : List ℕ) (n : ℕ) → drop n ps ≡ p ∷ qs → drop (n + 1) ps ≡ qs
drop_one_more ps qs p n e = sym (drop-drop 1 n ps) ∙ ap (drop 1) e

-- a piece and what follows it, after others
pub join_behind : (d : List ℕ) (fronts : List (List ℕ)) (p : List ℕ) (qs : List (List ℕ)) → join d (fronts ++ p ∷ qs) ≡ closed d fronts ++ join d (p ∷ qs)
join_behind d [] p qs = refl
join_behind d (a ∷ []) p qs = sym (ap (λ t. t ++ join d (p ∷ qs)) (append-nil (a ++ d)) ∙ append_assoc a d (join d (p ∷ qs)))
join_behind d (a ∷ b ∷ fronts) p qs =
    let front = closed d (b ∷ fronts) in
    let rest = join d (p ∷ qs) in
    ap (λ t. a ++ (d ++ t)) (join_behind d (b ∷ fronts) p qs) ∙ sym (append_assoc (a ++ d) front rest ∙ append_assoc a d (front ++ rest))

-- ---- passing over

-- the pieces from a place on
pub rest_is : (d s : List ℕ) (n at k : ℕ) → d ≢ [] → IsBehind d s n at → FindsNeedle (drop at s) d 0 (Some k)
    → drop n (pieces_of d s) ≡ take k (drop at s) ∷ pieces_of d (drop (k + length d) (drop at s))
rest_is d s n at k some behind finds = sym behind.rest ∙ pieces_first d (drop at s) k some finds

pub behind_more : (d s : List ℕ) (n at k : ℕ) → d ≢ [] → IsBehind d s n at → FindsNeedle (drop at s) d 0 (Some k) → IsBehind d s (n + 1) (at + (k + length d))
behind_more d s n at k some behind finds =
    let r = drop at s in
    let ps = pieces_of d s in
    let later = pieces_of d (drop (k + length d) r) in
    let e = rest_is d s n at k some behind finds in
    let fits = finds.1.fits in
    record {
      inside = omega (arith, length-drop at s, behind.inside);
      front = take-add at (k + length d) s
          ∙ ap (λ t. take at s ++ t) (take-add k (length d) r ∙ ap (λ t. take k r ++ t) (OccursAt-part r d k finds.1))
          ∙ ap (λ t. t ++ (take k r ++ d)) behind.front
          ∙ sym (ap (closed d) (take_one_more ps later (take k r) n e) ∙ flat_map-append (λ p. p ++ d) (take n ps) (take k r ∷ [])
          ∙ ap (λ t. closed d (take n ps) ++ t) (append-nil (take k r ++ d)));
      rest = ap (pieces_of d) (sym (drop-drop (k + length d) at s)) ∙ sym (drop_one_more ps later (take k r) n e);
    }

pub behind_last : (d s : List ℕ) (n at : ℕ) → d ≢ [] → IsBehind d s n at → FindsNeedle (drop at s) d 0 None → length (pieces_of d s) ≡ n + 1
behind_last d s n at some behind finds =
    let e = sym behind.rest ∙ pieces_last d (drop at s) some finds in
    omega (arith, ap length e, length-drop n (pieces_of d s))

-- ---- the pieces up to one

-- the text up to the end of the piece after the first n
pub end_found : (d s : List ℕ) (n at k : ℕ) → d ≢ [] → IsBehind d s n at → FindsNeedle (drop at s) d 0 (Some k) → take (at + k) s ≡ join d (take (n + 1) (pieces_of d s))
end_found d s n at k some behind finds =
    let r = drop at s in
    let ps = pieces_of d s in
    let e = rest_is d s n at k some behind finds in
    take-add at k s ∙ ap (λ t. t ++ take k r) behind.front
    ∙ sym (ap (join d) (take_one_more ps (pieces_of d (drop (k + length d) r)) (take k r) n e) ∙ join_behind d (take n ps) (take k r) [])

-- this many pieces are all, if there are no more
pub end_of_text : (d s : List ℕ) (n : ℕ) → d ≢ [] → length (pieces_of d s) ≤ n + 1 → take (length s) s ≡ join d (take (n + 1) (pieces_of d s))
end_of_text d s n some few = take-length s ∙ sym (ap (join d) (take_all (n + 1) (pieces_of d s) few) ∙ join_pieces d s some)

-- ---- no delimiter

-- no character, no text
pub empty_is : (d : List ℕ) → true ≡ eqb (length d) 0 → d ≡ []
empty_is [] e = refl
empty_is (c ∷ d) e = absurd (omega (arith, eqb-true (length (c ∷ d)) 0 (sym e)))

pub no_pieces : (s : List ℕ) → pieces_of [] s ≡ []
unfolding pieces_of
no_pieces s = refl

pub some_characters : (d : List ℕ) → d ≢ [] → 0 < length d
some_characters [] some = absurd (some refl)
some_characters (c ∷ d) some = omega arith

pub none_by_nothing : (d s : List ℕ) (m n : ℕ) → d ≡ [] → join d (take n (drop m (pieces_of d s))) ≡ []
none_by_nothing d s m n e =
    ap (λ (t : List ℕ). join t (take n (drop m (pieces_of t s)))) e ∙ ap (λ (ps : List (List ℕ)). join [] (take n (drop m ps))) (no_pieces s)
    ∙ ap (λ (ps : List (List ℕ)). join [] (take n ps)) (drop-nil m) ∙ ap (join []) (take-nil n)
