-- SPDX-License-Identifier: Apache-2.0
-- Giving a text a piece.
use Rattle.mtext.proofs.TextWords.{◌≡◌, ◌≢◌, ℕ, zero, suc, ◌+◌, ◌-◌, ◌≤◌, ◌<◌, List, [], ◌∷◌, ◌++◌, length, take, drop, min, replicate, refl, sym, ap, subst}
use Rattle.mtext.proofs.TextWords.{◌∙◌, arith, add-one, append_assoc, append-nil, append_cancel_left, length-drop, length-take-le, take-append-drop, take_all}
use Rattle.mtext.proofs.TextWords.{drop_min, repeat, join, ArePieces, pieces_of, with_piece, one_list, closed, IsBehind, without, drop-drop}
use Rattle.std.proofs.lemmas.List.{drop_all}
use Rattle.mtext.proofs.PieceSteps.{join_behind, join_pieces, take_one_more}

-- ---- the list with another piece

-- in place of one that is there
with_piece_at : (k : ℕ) (v p : List ℕ) (fronts later : List (List ℕ)) → length fronts ≡ k → with_piece k v (fronts ++ p ∷ later) ≡ fronts ++ v ∷ later
unfolding with_piece
with_piece_at zero v p [] later e = refl
with_piece_at zero v p (x ∷ fronts) later e = absurd (omega (arith, e))
with_piece_at (suc k) v p [] later e = absurd (omega (arith, e))
with_piece_at (suc k) v p (x ∷ fronts) later e = ap (λ (t : List (List ℕ)). x ∷ t) (with_piece_at k v p fronts later (omega (arith, e)))

-- after the last
with_piece_past : (k : ℕ) (v : List ℕ) (ps : List (List ℕ)) → length ps ≤ k → with_piece k v ps ≡ ps ++ (replicate (k - length ps) [] ++ v ∷ [])
unfolding with_piece
with_piece_past zero v [] le = refl
with_piece_past (suc k) v [] le =
    let n : suc k - 0 ≡ suc (k - 0) = omega arith in
    ap (λ (t : List (List ℕ)). [] ∷ t) (with_piece_past k v [] (omega arith)) ∙ ap (λ (j : ℕ). replicate j [] ++ v ∷ []) (sym n)
with_piece_past zero v (x ∷ ps) le = absurd (omega arith)
with_piece_past (suc k) v (x ∷ ps) le =
    let n : suc k - suc (length ps) ≡ k - length ps = omega arith in
    ap (λ (t : List (List ℕ)). x ∷ t) (with_piece_past k v ps (omega arith) ∙ ap (λ (j : ℕ). ps ++ (replicate j [] ++ v ∷ [])) (sym n))

-- ---- its joining

join_more : (d p : List ℕ) (ps qs : List (List ℕ)) → ps ≢ [] → join d (ps ++ p ∷ qs) ≡ join d ps ++ (d ++ join d (p ∷ qs))
join_more d p [] qs some = absurd (some refl)
join_more d p (x ∷ []) qs some = refl
join_more d p (x ∷ y ∷ ps) qs some =
    let rest = d ++ join d (p ∷ qs) in
    let whole = join d (y ∷ ps) in
    ap (λ t. x ++ (d ++ t)) (join_more d p (y ∷ ps) qs (λ e. absurd cc)) ∙ sym (append_assoc x (d ++ whole) rest ∙ ap (λ t. x ++ t) (append_assoc d whole rest))

closed_empty : (d : List ℕ) (j : ℕ) → closed d (replicate j []) ≡ repeat j d
closed_empty d zero = refl
closed_empty d (suc j) = ap (λ t. d ++ t) (closed_empty d j)

-- empty pieces and one more, after others
join_padded : (d v : List ℕ) (ps : List (List ℕ)) (j : ℕ) → ps ≢ [] → join d (ps ++ (replicate j [] ++ v ∷ [])) ≡ join d ps ++ (repeat (suc j) d ++ v)
join_padded d v ps zero some = join_more d v ps [] some ∙ ap (λ t. join d ps ++ (t ++ v)) (sym (append-nil d))
join_padded d v ps (suc j) some =
    join_more d [] ps (replicate j [] ++ v ∷ []) some
    ∙ ap (λ t. join d ps ++ (d ++ t)) (join_behind d (replicate (suc j) []) v [] ∙ ap (λ t. t ++ v) (closed_empty d (suc j)))
    ∙ ap (λ t. join d ps ++ t) (sym (append_assoc d (repeat (suc j) d) v))

some_pieces : (d s : List ℕ) → d ≢ [] → pieces_of d s ≢ []
some_pieces d s some e = subst (λ ps. ArePieces d s ps → ⊥) (sym e) (λ are. are.cut) (one_list d s some).0

-- what stands after a piece and before these
abbrev before_all : List ℕ → List (List ℕ) → List ℕ
before_all d [] = []
before_all d (p ∷ ps) = d ++ join d (p ∷ ps)

join_first : (d v : List ℕ) (later : List (List ℕ)) → join d (v ∷ later) ≡ v ++ before_all d later
join_first d v [] = sym (append-nil v)
join_first d v (p ∷ later) = refl

join_both : (d : List ℕ) (fronts later : List (List ℕ)) → fronts ≢ [] → join d (fronts ++ later) ≡ join d fronts ++ before_all d later
join_both d fronts [] some = ap (join d) (append-nil fronts) ∙ sym (append-nil (join d fronts))
join_both d fronts (p ∷ later) some = join_more d p fronts later some

-- ---- the text with another piece

taken_some : (n : ℕ) (qs : List (List ℕ)) → qs ≢ [] → take (n + 1) qs ≢ []
taken_some n [] some = absurd (some refl)
taken_some n (q ∷ qs) some = λ e. omega (arith, ap length e, ap (λ (m : ℕ). length (take m (q ∷ qs))) (add-one n))

-- in place of the first pieces of a text
set_first : (d r v : List ℕ) (end more : ℕ) → d ≢ [] → take end r ≡ join d (take (more + 1) (pieces_of d r)) → v ++ drop end r ≡ join d (v ∷ drop (more + 1) (pieces_of d r))
set_first d r v end more some cut =
    let qs = pieces_of d r in
    let front = take (more + 1) qs in
    let later = drop (more + 1) qs in
    let whole : join d front ++ drop end r ≡ join d front ++ before_all d later =
    ap (λ t. t ++ drop end r) (sym cut) ∙ take-append-drop end r ∙ sym (join_pieces d r some) ∙ ap (join d) (sym (take-append-drop (more + 1) qs)) ∙ join_both d front later (taken_some more qs (some_pieces d r some)) in
    ap (λ t. v ++ t) (append_cancel_left (join d front) (drop end r) (before_all d later) whole) ∙ sym (join_first d v later)

-- after the first n, if these are the ones from there on
set_at : (d s v : List ℕ) (n at end more : ℕ) (qs : List (List ℕ)) → d ≢ [] → IsBehind d s n at → take end (drop at s) ≡ join d (take (more + 1) (pieces_of d (drop at s))) → drop n (pieces_of d s) ≡ qs
    → take at s ++ (v ++ drop (at + end) s) ≡ join d (with_piece n v (without n more (pieces_of d s)))
set_at d s v n at end more [] some behind cut e = absurd (some_pieces d (drop at s) some (behind.rest ∙ e))
set_at d s v n at end more (q ∷ qs) some behind cut e =
    let ps = pieces_of d s in
    let later = drop (n + 1 + more) ps in
    let same : n + (more + 1) ≡ n + 1 + more = omega arith in
    let rest : v ++ drop (at + end) s ≡ join d (v ∷ later) =
    ap (λ t. v ++ t) (sym (drop-drop end at s)) ∙ set_first d (drop at s) v end more some cut
    ∙ ap (λ (xs : List (List ℕ)). join d (v ∷ drop (more + 1) xs)) behind.rest ∙ ap (λ (xs : List (List ℕ)). join d (v ∷ xs)) (drop-drop (more + 1) n ps) ∙ ap (λ (m : ℕ). join d (v ∷ drop m ps)) same in
    let list : without n more ps ≡ take n ps ++ q ∷ later = ap (λ (xs : List (List ℕ)). xs ++ later) (take_one_more ps qs q n e) ∙ append_assoc (take n ps) (q ∷ []) later in
    let fits : n ≤ length ps = omega (arith, ap length e, length-drop n ps) in
    ap (λ t. take at s ++ t) rest ∙ ap (λ t. t ++ join d (v ∷ later)) behind.front ∙ sym (join_behind d (take n ps) v later)
    ∙ ap (join d) (sym (ap (with_piece n v) list ∙ with_piece_at n v q (take n ps) later (length-take-le n ps fits)))

pub set_found : (d s v : List ℕ) (n at end more : ℕ) → d ≢ [] → IsBehind d s n at → take end (drop at s) ≡ join d (take (more + 1) (pieces_of d (drop at s)))
    → take at s ++ (v ++ drop (at + end) s) ≡ join d (with_piece n v (without n more (pieces_of d s)))
set_found d s v n at end more some behind cut = set_at d s v n at end more (drop n (pieces_of d s)) some behind cut refl

-- nothing is left out of what is not there
without_past : (n more : ℕ) (ps : List (List ℕ)) → length ps ≤ n → without n more ps ≡ ps
without_past n more ps le =
    ap (λ (xs : List (List ℕ)). xs ++ drop (n + 1 + more) ps) (take_all (n + 1) ps (omega (arith, le))) ∙ ap (λ (xs : List (List ℕ)). ps ++ xs) (drop_all (n + 1 + more) ps (omega (arith, le))) ∙ append-nil ps

-- nor one after another, if there is to be no more
pub all_kept : (n : ℕ) (ps : List (List ℕ)) → without n 0 ps ≡ ps
all_kept n ps =
    let same : n + 1 + 0 ≡ n + 1 = omega arith in
    ap (λ (m : ℕ). take (n + 1) ps ++ drop m ps) same ∙ take-append-drop (n + 1) ps

pub set_past : (d s v : List ℕ) (n m more : ℕ) → d ≢ [] → length (pieces_of d s) + m ≡ n + 1 → 0 < m
    → s ++ (repeat m d ++ v) ≡ join d (with_piece n v (without n more (pieces_of d s)))
set_past d s v n m more some missing positive =
    let ps = pieces_of d s in
    let j = n - length ps in
    let is : m ≡ suc j = omega arith in
    sym (ap (λ (xs : List (List ℕ)). join d (with_piece n v xs)) (without_past n more ps (omega arith)) ∙ ap (join d) (with_piece_past n v ps (omega arith)) ∙ join_padded d v ps j (some_pieces d s some)
    ∙ ap (λ t. t ++ (repeat (suc j) d ++ v)) (join_pieces d s some) ∙ ap (λ (i : ℕ). s ++ (repeat i d ++ v)) (sym is))

-- from a place up to a place
pub range_is : (first to : ℕ) (ps : List (List ℕ)) → 1 ≤ first → first ≤ to → without (first - 1) (to + 1 - first - 1) ps ≡ take first ps ++ drop to ps
range_is first to ps low order =
    let up : first - 1 + 1 ≡ first = omega (arith, low) in
    let end : first - 1 + 1 + (to + 1 - first - 1) ≡ to = omega (arith, low, order) in
    ap (λ (m : ℕ). take m ps ++ drop (first - 1 + 1 + (to + 1 - first - 1)) ps) up ∙ ap (λ (m : ℕ). take first ps ++ drop m ps) end

-- ---- a text with other characters

spaces_are : (n : ℕ) → repeat {A = ℕ} n (32 ∷ []) ≡ replicate n 32
spaces_are zero = refl
spaces_are (suc n) = ap (λ (t : List ℕ). 32 ∷ t) (spaces_are n)

pub characters_past : (s v : List ℕ) (before to : ℕ) → length s ≤ before → before ≤ to
    → s ++ (repeat {A = ℕ} (before - length s) (32 ∷ []) ++ v) ≡ take before s ++ (replicate (before - length s) 32 ++ (v ++ drop to s))
characters_past s v before to past order =
    let n = before - length s in
    ap (λ t. s ++ (t ++ v)) (spaces_are n) ∙ ap (λ t. t ++ (replicate n 32 ++ v)) (sym (take_all before s past))
    ∙ ap (λ t. take before s ++ (replicate n 32 ++ t)) (sym (append-nil v) ∙ ap (λ t. v ++ t) (sym (drop_all to s (omega (arith, past, order)))))

pub characters_at : (s v : List ℕ) (before end to : ℕ) → before ≤ length s → end ≡ min to (length s)
    → take before s ++ (v ++ drop end s) ≡ take before s ++ (replicate (before - length s) 32 ++ (v ++ drop to s))
characters_at s v before end to inside is =
    let none : before - length s ≡ 0 = omega (arith, inside) in
    ap (λ (m : ℕ). take before s ++ (v ++ drop m s)) is ∙ ap (λ t. take before s ++ (v ++ t)) (drop_min to s) ∙ ap (λ (m : ℕ). take before s ++ (replicate m 32 ++ (v ++ drop to s))) (sym none)
