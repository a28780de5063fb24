-- SPDX-License-Identifier: Apache-2.0
-- The characters of pieces are those of the text and of the delimiter.
use Rattle.moperator.proofs.OperatorWords.{ℕ, zero, suc, ◌-◌, Bool, true, false, cond, List, [], ◌∷◌, ◌++◌, length, drop, All, unwrap_or, pos, onto_first}
use Rattle.moperator.proofs.OperatorWords.{from_place, to_place, range_of, piece_of}
use Rattle.std.specs.Prelude.{ℤ, Option, ◌+◌}
use Rattle.std.proofs.lemmas.List.Elements.{All-nil, All-cons, All-head, All-tail, All-append, All-take, All-drop}
use Rattle.mspec.specs.Pieces.{join, begins_with, cut_after, pieces_of}

module _ (P : ℕ → Type 0) where
  onto_all : (x : ℕ) (ps : List (List ℕ)) → P x → All (All P) ps → All (All P) (onto_first x ps)
  onto_all x [] h all = All-cons (All P) (x ∷ []) [] (All-cons P x [] h (All-nil P)) (All-nil (All P))
  onto_all x (p ∷ ps) h all = All-cons (All P) (x ∷ p) ps (All-cons P x p h (All-head (All P) p ps all)) (All-tail (All P) p ps all)

  cond_all : (b : Bool) (ps qs : List (List ℕ)) → All (All P) ps → All (All P) qs → All (All P) (cond b ps qs)
  cond_all true ps qs h g = h
  cond_all false ps qs h g = g

  cut_all : (left : ℕ) (d s : List ℕ) → All P s → All (All P) (cut_after left d s)
  cut_all zero d [] all = All-cons (All P) [] [] (All-nil P) (All-nil (All P))
  cut_all (suc left) d [] all = All-cons (All P) [] [] (All-nil P) (All-nil (All P))
  cut_all (suc left) d (x ∷ s) all = cut_all left d s (All-tail P x s all)
  cut_all zero d (x ∷ s) all =
      let rest = All-tail P x s all in
      cond_all (begins_with d (x ∷ s)) _ _ (All-cons (All P) [] _ (All-nil P) (cut_all (length d - 1) d s rest))
      (onto_all x (cut_after 0 d s) (All-head P x s all) (cut_all 0 d s rest))

  pieces_all : (d s : List ℕ) → All P s → All (All P) (pieces_of d s)
  unfolding pieces_of
  pieces_all [] s all = All-nil (All P)
  pieces_all (c ∷ d) s all = cut_all 0 (c ∷ d) s all

  join_all : (d : List ℕ) (ps : List (List ℕ)) → All P d → All (All P) ps → All P (join d ps)
  join_all d [] h all = All-nil P
  join_all d (p ∷ []) h all = All-head (All P) p [] all
  join_all d (p ∷ q ∷ ps) h all =
      All-append P p (d ++ join d (q ∷ ps)) (All-head (All P) p (q ∷ ps) all)
      (All-append P d (join d (q ∷ ps)) h (join_all d (q ∷ ps) h (All-tail (All P) p (q ∷ ps) all)))

  pub piece_all : (s d : List ℕ) (from to : Option ℤ) → All P s → All P d → All P (piece_of s d from to)
  piece_all s d from to all h =
      let start = unwrap_or from (pos 1) in
      let end = unwrap_or to start in
      join_all d (range_of from to (pieces_of d s)) h
      (All-take (All P) (to_place end + 1 - from_place start) (drop (from_place start - 1) (pieces_of d s)) (All-drop (All P) (from_place start - 1) (pieces_of d s) (pieces_all d s all)))
