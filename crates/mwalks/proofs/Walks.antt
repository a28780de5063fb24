-- SPDX-License-Identifier: Apache-2.0
-- A walk over a routine meets the lines that `Routine` answers, and ends.
use Rattle.std.proofs.Common.{Bool, List, None, Option, Some, [], ap, arith, cond, false, is_some, length, map, refl, subst, suc, sym, true, zero, ℕ, ◌++◌, ◌<◌}
use Rattle.std.proofs.Common.{◌||◌, ◌∙◌, ◌∷◌, ◌≡◌, ◌≤◌}
use Rattle.std.proofs.lemmas.Cmp.{tied_itself}
use Rattle.std.specs.Cmp.Lexicographic.{bytes_decides}
use Rattle.std.specs.FinMap.{entries, get}
use Rattle.std.specs.List.{filter, find, list_any}
use Rattle.std.specs.Option.{option_to_list}
use Rattle.std.specs.Ordering.{is_lt}
use Rattle.std.specs.Prelude.{codes, if◌then◌else◌, option_and_then}
use Rattle.mspec.proofs.NodeOrders.{text_cmp_total}
use Rattle.mspec.specs.Access.{Settings, Read, lets}
use Rattle.mspec.specs.Globals.{Globals, lines_of, order_at}
use Rattle.mspec.specs.Node.{Node, Text}
use Rattle.mspec.specs.NodeOrder.{canonical_value, text_cmp}
use Rattle.mspec.specs.Number.{significant_digits}
use Rattle.mspec.specs.Plan.{Plan, Done, Ask, Value, Neighbour, Ops, then_plan, perform}
use Rattle.mspec.specs.Trees.{Forward, is_before, text_eq}
use Rattle.mmeaning.specs.Shared.{Shared, act, guarded, may_call}
use Rattle.mnodes.specs.Held.{AreHeld}
use Rattle.mkey.specs.Under.{child_under, passes}
use Rattle.mglobal.specs.Lines.{line_at, line_in, lines_behind, routine_at}
use Rattle.mglobal.proofs.LineWalks.{all_lines, no_more, next_line, next_behind, less}
use Rattle.mglobal.proofs.Orders.{order_is}
use Rattle.mwalks.specs.RoutineLaw.{line, onward, walk, RoutineIsAWalk}

then_performed : {W A B : Type 0} (ops : Ops W) (p : Plan A) (f : A → Plan B) (w : W) → perform ops (then_plan p f) w ≡ perform ops (f (perform ops p w).0) (perform ops p w).1
then_performed ops (Done a) f w = refl
then_performed ops (Ask op k) f w = then_performed ops (k (ops op w).0) f (ops op w).1

-- ---- how many nodes are left after a place

before_on : (x y z : Text) → is_before x y ≡ true → is_before y z ≡ true → is_before x z ≡ true
before_on x y z e f = ap is_lt ((text_cmp_total significant_digits).trans x y z (less (text_cmp significant_digits x y) e) (less (text_cmp significant_digits y z) f))

not_before : (x : Text) → is_before x x ≡ false
not_before x = ap is_lt (tied_itself (text_cmp_total significant_digits) x)

module _ (owner name : Text) where
  abbrev child : Node → Option Text
  child = child_under (routine_at owner name)

  abbrev test : Text → Node → Bool
  test x m = passes (is_before x) (child m)

  abbrev left : Text → List (Node × Text) → ℕ
  left x es = length (filter (λ e. test x e.0) es)

  abbrev first : Text → List (Node × Text) → Option Text
  first x es = option_and_then child (find (test x) (map (λ e. e.0) es))

  module _ (x c : Text) (lt : is_before x c ≡ true) where
    later : (o : Option Text) → passes (is_before c) o ≡ true → passes (is_before x) o ≡ true
    later None t = t
    later (Some p) t = before_on x c p lt t

    both : (e : Node × Text) (l k : List (Node × Text)) (b d : Bool) → (b ≡ true → d ≡ true) → length l ≤ length k → length (cond b (e ∷ l) l) ≤ length (cond d (e ∷ k) k)
    both e l k b d on few = grind arith

    no_more_left : (es : List (Node × Text)) → left c es ≤ left x es
    no_more_left [] = omega arith
    no_more_left (e ∷ es) = both e (filter (λ e. test c e.0) es) (filter (λ e. test x e.0) es) (test c e.0) (test x e.0) (later (child e.0)) (no_more_left es)

    fewer_left : (es : List (Node × Text)) → first x es ≡ Some c → left c es < left x es
    fewer_left [] e = absurd (cc)
    fewer_left (e ∷ es) is = by_test (test x e.0) refl is (fewer_left es)
      where
        passed : (b : Bool) (l k : List (Node × Text)) → b ≡ false → length l ≤ length k → length (cond b (e ∷ l) l) < length (e ∷ k)
        passed b l k out few = grind arith

        skipped : (b d : Bool) (l k : List (Node × Text)) → (b ≡ true → d ≡ true) → d ≡ false → length l < length k → length (cond b (e ∷ l) l) < length (cond d (e ∷ k) k)
        skipped b d l k on out few = grind arith

        by_test : (d : Bool) → test x e.0 ≡ d → option_and_then child (cond d (Some e.0) (find (test x) (map (λ e. e.0) es))) ≡ Some c → (first x es ≡ Some c → left c es < left x es) → left c (e ∷ es) < left x (e ∷ es)
        by_test true t here on =
            let out : test c e.0 ≡ false = ap (passes (is_before c)) here ∙ not_before c in
            subst (λ d. left c (e ∷ es) < length (cond d (e ∷ filter (λ e. test x e.0) es) (filter (λ e. test x e.0) es))) (sym t)
            (passed (test c e.0) (filter (λ e. test c e.0) es) (filter (λ e. test x e.0) es) out (no_more_left es))
        by_test false t here on = skipped (test c e.0) (test x e.0) (filter (λ e. test c e.0) es) (filter (λ e. test x e.0) es) (later (child e.0)) t (on here)

-- ---- the walk

-- an account may call its own routines
own_called : (settings : Settings) (me : Text) → may_call settings me me ≡ true
own_called settings me = yes (text_eq me me) ((bytes_decides me me).1 refl) (list_any (lets me me (codes "ROUTINE") Read) settings.grants)
  where
    yes : (b : Bool) → b ≡ true → (d : Bool) → (b || d) ≡ true
    yes b e d = grind arith

module _ (settings : Settings) (terminal : ℕ) (me owner name : Text) (w : Shared) (called : may_call settings me owner ≡ true) where
  abbrev g : Globals
  g = w.globals

  abbrev ops : Ops Shared
  ops = act settings terminal me

  next_is : (x : Text) → act settings terminal me (Neighbour Forward (line_at owner name x)) w ≡ (order_at g Forward (line_at owner name x), w)
  next_is x = ap (λ b. guarded b None w (order_at g Forward (line_at owner name x), w)) called

  text_is : (x : Text) → act settings terminal me (Value (line_at owner name x)) w ≡ (get g (line_at owner name x), w)
  text_is x = ap (λ b. guarded b None w (get g (line_at owner name x), w)) called

  line_is : (c : Text) → perform ops (line owner name c) w ≡ (line_in g owner name c, w)
  line_is c = by_number (is_some (canonical_value significant_digits c))
    where
      by_number : (b : Bool) → perform ops (if b then Ask (Value (line_at owner name c)) (λ text. Done (option_to_list text)) else Done []) w ≡ ((if b then option_to_list (get g (line_at owner name c)) else []), w)
      by_number true = ap (λ (p : Option Text × Shared). (option_to_list p.0, p.1)) (text_is c)
      by_number false = refl

  asked : (x : Text) → order_at g Forward (line_at owner name x) ≡ first owner name x (entries g)
  asked x = order_is (line_at owner name x) Forward g

  walked : (most : ℕ) (x : Text) → left owner name x (entries g) < most → perform ops (walk owner name most x) w ≡ (lines_behind g owner name x, w)
  walked zero x few = absurd (omega (arith, few))
  walked (suc most) x few = ap (λ (p : Option Text × Shared). perform ops (onward owner name (walk owner name most) p.0) p.1) (next_is x) ∙ by_next (order_at g Forward (line_at owner name x)) refl (walked most)
    where
      by_next : (o : Option Text) → o ≡ order_at g Forward (line_at owner name x) → ((c : Text) → left owner name c (entries g) < most → perform ops (walk owner name most c) w ≡ (lines_behind g owner name c, w)) → perform ops (onward owner name (walk owner name most) o) w ≡ (lines_behind g owner name x, w)
      by_next None is on = ap (λ l. (l, w)) (sym (no_more owner name g x is))
      by_next (Some c) is on =
          let fewer = fewer_left owner name x c (next_behind owner name g x c is) (entries g) (sym (asked x) ∙ sym is) in
          let rest = on c (omega (arith, fewer, few)) in
          then_performed ops (line owner name c) (λ texts. then_plan (walk owner name most c) (λ rest. Done (texts ++ rest))) w
          ∙ ap (λ (p : List Text × Shared). perform ops (then_plan (walk owner name most c) (λ rest. Done (p.0 ++ rest))) p.1) (line_is c)
          ∙ then_performed ops (walk owner name most c) (λ rest. Done (line_in g owner name c ++ rest)) w
          ∙ ap (λ (p : List Text × Shared). (line_in g owner name c ++ p.0, p.1)) rest
          ∙ ap (λ l. (l, w)) (sym (next_line owner name g x c is))

-- enough steps for the walk over the owner's nodes
abbrev enough_for : Globals → Text → Text → ℕ
enough_for g owner name = suc (left owner name [] (entries g))

open_walk : (settings : Settings) (terminal : ℕ) (me owner name : Text) (w : Shared) → AreHeld w.globals → may_call settings me owner ≡ true
    → (most : ℕ) → enough_for w.globals owner name ≤ most → perform (act settings terminal me) (walk owner name most []) w ≡ (lines_of w.globals owner name, w)
open_walk settings terminal me owner name w held called most enough =
    walked settings terminal me owner name w called most [] (omega (arith, enough)) ∙ ap (λ l. (l, w)) (all_lines owner name w.globals held)

-- a walk over what may not be read ends at its first step
shut_walk : (settings : Settings) (terminal : ℕ) (me owner name : Text) (w : Shared) → may_call settings me owner ≡ false → (most : ℕ)
    → enough_for w.globals owner name ≤ most → perform (act settings terminal me) (walk owner name most []) w ≡ ([], w)
shut_walk settings terminal me owner name w shut zero enough = absurd (omega (arith, enough))
shut_walk settings terminal me owner name w shut (suc most) enough =
    let refused : (Option Text × Shared) → List Text × Shared = λ p. perform (act settings terminal me) (onward owner name (walk owner name most) p.0) p.1 in
    ap (λ b. refused (guarded b None w (order_at w.globals Forward (line_at owner name []), w))) shut

shared_walk : (settings : Settings) (terminal : ℕ) (me owner name : Text) (w : Shared) → AreHeld w.globals → (b : Bool) → may_call settings me owner ≡ b
    → (most : ℕ) → enough_for w.globals owner name ≤ most → perform (act settings terminal me) (walk owner name most []) w ≡ guarded b [] w (lines_of w.globals owner name, w)
shared_walk settings terminal me owner name w held true is most enough = open_walk settings terminal me owner name w held is most enough
shared_walk settings terminal me owner name w held false is most enough = shut_walk settings terminal me owner name w is most enough

pub routine_is_a_walk : RoutineIsAWalk
routine_is_a_walk settings terminal me None name w held =
    (enough_for w.globals me name, open_walk settings terminal me me name w held (own_called settings me))
routine_is_a_walk settings terminal me (Some owner) name w held =
    (enough_for w.globals owner name, shared_walk settings terminal me owner name w held (may_call settings me owner) refl)
