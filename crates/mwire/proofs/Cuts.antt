-- SPDX-License-Identifier: Apache-2.0
-- The finished lines of a stream that comes in parts, and what is kept of its rest.
use Rattle.mwire.proofs.WireWords.{◌≡◌, ◌++◌, ◌+◌, ◌-◌, ◌<◌, ◌≤◌, ◌==◌, List, [], ◌∷◌, ℕ, refl, sym, ◌∙◌, ap, true, false, append_assoc, append-nil, length}
use Rattle.mwire.proofs.WireWords.{take, map, arith, inl, inr, slice_index, flat_map, lines, lines_of_parts, strip_carriage_return, take_all, length-take-le}
use Rattle.mwire.proofs.WireWords.{map-append, All-append, All-nil, slice_split_at, slice_split_none, length-slice_split, TooLong, classify, parts_of, but_last}
use Rattle.mwire.proofs.WireWords.{finished_lines, IsOpen, AreOpen, IsCut, if◌then◌else◌}
use Rattle.std.proofs.lemmas.List.Concat.{flat_map-append}
use Rattle.std.proofs.lemmas.Bool.{cases_lt}
use Rattle.mwire.proofs.Fronts.{take-take_append}

-- what is kept of a line decides what becomes of it

pub length-strip : (l : List ℕ) → length l ≤ length (strip_carriage_return l) + 1
length-strip l =
    let n : length l - 1 ≤ length l = omega arith in
    elim (slice_index l (length l - 1) == 13) as (λ b. length l ≤ length (if b then take (length l - 1) l else l) + 1) [
      | true ↦ rw (length-take-le (length l - 1) l n) (omega arith)
      | false ↦ omega arith
    ]

classify-long : (l : List ℕ) → 260 < length l → classify l ≡ TooLong
classify-long l h = grind arith

-- of a line, or of one that lost its carriage return
module _ (f : List ℕ → List ℕ) (shorter : (l : List ℕ) → length l ≤ length (f l) + 1) where
  pub classify-kept : (n : ℕ) (rest : List ℕ) → 261 < n → classify (f (take n rest)) ≡ classify (f rest)
  classify-kept n rest h =
      elim (cases_lt n (length rest)) [
        | inl long ↦
            let front_long : length (take n rest) ≡ n = length-take-le n rest (omega arith) in
            let a : 260 < length (f (take n rest)) = omega (arith, shorter (take n rest)) in
            let b : 260 < length (f rest) = omega (arith, shorter rest) in
            classify-long (f (take n rest)) a ∙ sym (classify-long (f rest) b)
        | inr short ↦ ap (λ l. classify (f l)) (take_all n rest short)
      ]

-- further bytes, without a line feed

pub IsCut-nil : IsCut [] [] []
IsCut-nil = record { rest = []; whole = refl; each = tt; open_rest = All-nil (λ x. (x == 10) ≡ false); kept_is = refl }

pub IsCut-open : (past : List ℕ) (finished : List (List ℕ)) (kept kept' bytes : List ℕ)
    → IsCut past finished kept → IsOpen bytes → kept' ≡ take 262 (kept ++ bytes) → IsCut (past ++ bytes) finished kept'
IsCut-open past finished kept kept' bytes s no_feed k = record {
  rest = s.rest ++ bytes;
  whole = ap (λ l. l ++ bytes) s.whole ∙ append_assoc (flat_map (λ x. x ++ 10 ∷ []) finished) s.rest bytes;
  each = s.each;
  open_rest = All-append (λ x. (x == 10) ≡ false) s.rest bytes s.open_rest no_feed;
  kept_is = k ∙ (ap (λ l. take 262 (l ++ bytes)) s.kept_is ∙ take-take_append 262 s.rest bytes);
}

AreOpen-push : (xs : List (List ℕ)) (x : List ℕ) → AreOpen xs → IsOpen x → AreOpen (xs ++ x ∷ [])
AreOpen-push [] x h o = (o, tt)
AreOpen-push (y ∷ ys) x h o = (h.0, AreOpen-push ys x h.1 o)

-- a line feed, which finishes the rest
pub IsCut-line : (past : List ℕ) (finished : List (List ℕ)) (kept : List ℕ) → (s : IsCut past finished kept) → IsCut (past ++ 10 ∷ []) (finished ++ s.rest ∷ []) []
IsCut-line past finished kept s = record {
  rest = [];
  whole = rw s.whole (simp (append-nil, flat_map-append, append_assoc));
  each = AreOpen-push finished s.rest s.each s.open_rest;
  open_rest = All-nil (λ x. (x == 10) ≡ false);
  kept_is = refl;
}

-- the lines of a text that is cut

regroup : (x f r : List ℕ) → ((x ++ 10 ∷ []) ++ f) ++ r ≡ x ++ 10 ∷ (f ++ r)
regroup x f r = simp append_assoc

-- the finished lines, and the parts of what comes after them
parts_of-cut : (finished : List (List ℕ)) (behind : List ℕ) → AreOpen finished → parts_of (flat_map (λ x. x ++ 10 ∷ []) finished ++ behind) ≡ finished ++ parts_of behind
parts_of-cut [] behind each = refl
parts_of-cut (x ∷ xs) behind each =
    rw (regroup x (flat_map (λ x. x ++ 10 ∷ []) xs) behind)
    (slice_split_at (λ b. b == 10) x 10 (flat_map (λ x. x ++ 10 ∷ []) xs ++ behind) each.0 refl ∙ ap (λ ps. x ∷ ps) (parts_of-cut xs behind each.1))

-- of a text that is cut
parts-cut : (bytes : List ℕ) (finished : List (List ℕ)) (kept : List ℕ) → (c : IsCut bytes finished kept) → parts_of bytes ≡ finished ++ c.rest ∷ []
parts-cut bytes finished kept c =
    ap parts_of c.whole ∙ (parts_of-cut finished c.rest c.each ∙ ap (λ ps. finished ++ ps) (slice_split_none (λ b. b == 10) c.rest c.open_rest))

lines_of_parts-front : (xs : List (List ℕ)) (y : List ℕ) (ys : List (List ℕ)) → lines_of_parts (xs ++ y ∷ ys) ≡ map strip_carriage_return xs ++ lines_of_parts (y ∷ ys)
lines_of_parts-front [] y ys = refl
lines_of_parts-front (x ∷ []) y ys = refl
lines_of_parts-front (x ∷ x' ∷ xs) y ys = ap (λ ls. strip_carriage_return x ∷ ls) (lines_of_parts-front (x' ∷ xs) y ys)

pub lines-cut : (bytes : List ℕ) (finished : List (List ℕ)) (kept : List ℕ) → (c : IsCut bytes finished kept) → lines bytes ≡ map strip_carriage_return finished ++ lines_of_parts (c.rest ∷ [])
lines-cut bytes finished kept c =
    ap lines_of_parts (parts-cut bytes finished kept c) ∙ lines_of_parts-front finished c.rest []

but_last-push : (xs : List (List ℕ)) (x : List ℕ) → but_last (xs ++ x ∷ []) ≡ xs
but_last-push [] x = refl
but_last-push (y ∷ []) x = refl
but_last-push (y ∷ y' ∷ ys) x = ap (λ l. y ∷ l) (but_last-push (y' ∷ ys) x)

but_last-front : (xs : List (List ℕ)) (y : List ℕ) (ys : List (List ℕ)) (n : ℕ) → length ys ≡ n + 1 → but_last (xs ++ y ∷ ys) ≡ xs ++ y ∷ but_last ys
but_last-front [] y [] n e = absurd (omega arith)
but_last-front [] y (z ∷ zs) n e = refl
but_last-front (x ∷ []) y ys n e = ap (λ l. x ∷ l) (but_last-front [] y ys n e)
but_last-front (x ∷ x' ∷ xs) y ys n e = ap (λ l. x ∷ l) (but_last-front (x' ∷ xs) y ys n e)

-- the finished lines of a text that is cut

pub finished_lines-cut_more : (bytes : List ℕ) (finished : List (List ℕ)) (kept more : List ℕ) → (c : IsCut bytes finished kept)
    → finished_lines ((bytes ++ 10 ∷ []) ++ more) ≡ map strip_carriage_return finished ++ strip_carriage_return c.rest ∷ finished_lines more
finished_lines-cut_more bytes finished kept more c =
    let front = flat_map (λ x. x ++ 10 ∷ []) finished in
    let joined : (bytes ++ 10 ∷ []) ++ more ≡ front ++ (c.rest ++ 10 ∷ more) = append_assoc bytes (10 ∷ []) more ∙ (ap (λ b. b ++ 10 ∷ more) c.whole ∙ append_assoc front c.rest (10 ∷ more)) in
    let behind = slice_split_at (λ b. b == 10) c.rest 10 more c.open_rest refl in
    ap finished_lines joined ∙ (ap (λ ps. map strip_carriage_return (but_last ps)) (parts_of-cut finished (c.rest ++ 10 ∷ more) c.each ∙ ap (λ ps. finished ++ ps) behind)
    ∙ (ap (map strip_carriage_return) (but_last-front finished c.rest (parts_of more) _ (length-slice_split (λ b. b == 10) more))
    ∙ map-append strip_carriage_return finished (c.rest ∷ but_last (parts_of more))))

pub finished_lines-cut : (bytes : List ℕ) (finished : List (List ℕ)) (kept : List ℕ) → IsCut bytes finished kept → finished_lines bytes ≡ map strip_carriage_return finished
finished_lines-cut bytes finished kept c =
    ap (λ ps. map strip_carriage_return (but_last ps)) (parts-cut bytes finished kept c) ∙ ap (map strip_carriage_return) (but_last-push finished c.rest)

-- a rest that is not empty is the last line
pub last_part : (x : ℕ) (xs : List ℕ) → lines_of_parts ((x ∷ xs) ∷ []) ≡ (x ∷ xs) ∷ []
last_part x xs = let some : (length (x ∷ xs) == 0) ≡ false = grind arith in rw some refl
