-- SPDX-License-Identifier: Apache-2.0
-- A tree that is kept beside the others.
use Rattle.mcache.proofs.CacheWords.{◌≡◌, ◌<◌, ◌≤◌, ◌+◌, ◌∙◌, ℕ, List, length, Option, Some, None, ap, sym, subst, inl, inr, arith, line_at, routine_line_at}
use Rattle.mcache.proofs.CacheWords.{Text, line_tree}
use Rattle.mcache.proofs.CacheWords.{routine_line_tree, IsKept, IsWithin, IsWithinOr, AreTrees, Entry}
use Rattle.std.specs.Prelude.{IfSome}
use Rattle.std.specs.declared.rc.Rc.{Rc}
use Rattle.std.specs.declared.alloc.Global.{Global}
use Rattle.mtree.specs.Tree.{IsCounted, IsBodyCounted}
use Rattle.mtree.specs.declared.tree.Line.{Line}
use Rattle.mtree.specs.declared.tree.RoutineLine.{RoutineLine}

module _ {n : ℕ} {lines : List (Entry Line)} {routine_lines : List (Entry RoutineLine)} (were : AreTrees n lines routine_lines) (text : Text) where
  -- after a look-up alone
  pub routine_lines_looked : (looked : List (Entry RoutineLine)) → IsWithin looked routine_lines → length looked ≤ length routine_lines → AreTrees n lines looked
  routine_lines_looked looked l fewer = record {
    some = were.some;
    few = omega (arith, were.few, fewer);
    line = were.line;
    routine_line = λ e c. were.routine_line e (l e c);
    line_counted = were.line_counted;
    routine_line_counted = λ e c. were.routine_line_counted e (l e c);
  }

  -- what is found has the tree of the text
  pub trees_found : (found : Option (Rc RoutineLine Global)) → IfSome found (λ t. IsKept routine_lines text t.value)
      → IfSome found (λ t. routine_line_at text ≡ Some (routine_line_tree t.value))
  trees_found None h = h
  trees_found (Some t) h = sym (ap routine_line_at h.2.0) ∙ were.routine_line h.0 h.1 ∙ ap (λ (x : RoutineLine). Some (routine_line_tree x)) h.2.1

  pub counted_routine_line : (tree : RoutineLine) → IsKept routine_lines text tree → IsBodyCounted tree.body
  counted_routine_line tree kept = subst (λ (t : RoutineLine). IsBodyCounted t.body) kept.2.1 (were.routine_line_counted kept.0 kept.1)

  -- after a look-up, the making of room, and the keeping
  pub with_line : (tree : Line) (looked room kept : List (Entry Line)) (others : List (Entry RoutineLine)) → IsWithin looked lines → IsWithin room looked → IsWithin others routine_lines → length room + length others < n → IsWithinOr kept room text tree → length kept ≤ length room + 1 → line_at text ≡ Some (line_tree tree) → IsCounted tree → AreTrees n kept others
  with_line tree looked room kept others l r o less k one is counted = record {
    some = were.some;
    few = omega (arith, less, one);
    line = λ e c. elim (k e c) [
      | inl old ↦ were.line e (l e (r e old))
      | inr new ↦ ap line_at new.0 ∙ is ∙ ap (λ t. Some (line_tree t)) (sym new.1)
    ];
    routine_line = λ e c. were.routine_line e (o e c);
    line_counted = λ e c. elim (k e c) [
      | inl old ↦ were.line_counted e (l e (r e old))
      | inr new ↦ subst IsCounted (sym new.1) counted
    ];
    routine_line_counted = λ e c. were.routine_line_counted e (o e c);
  }

  pub with_routine_line : (tree : RoutineLine) (looked room kept : List (Entry RoutineLine)) (others : List (Entry Line)) → IsWithin looked routine_lines → IsWithin room looked → IsWithin others lines → length others + length room < n → IsWithinOr kept room text tree → length kept ≤ length room + 1 → routine_line_at text ≡ Some (routine_line_tree tree) → IsBodyCounted tree.body → AreTrees n others kept
  with_routine_line tree looked room kept others l r o less k one is counted = record {
    some = were.some;
    few = omega (arith, less, one);
    line = λ e c. were.line e (o e c);
    routine_line = λ e c. elim (k e c) [
      | inl old ↦ were.routine_line e (l e (r e old))
      | inr new ↦ ap routine_line_at new.0 ∙ is ∙ ap (λ t. Some (routine_line_tree t)) (sym new.1)
    ];
    line_counted = λ e c. were.line_counted e (o e c);
    routine_line_counted = λ e c. elim (k e c) [
      | inl old ↦ were.routine_line_counted e (l e (r e old))
      | inr new ↦ subst (λ (t : RoutineLine). IsBodyCounted t.body) (sym new.1) counted
    ];
  }
