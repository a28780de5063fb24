-- SPDX-License-Identifier: Apache-2.0
-- The places of MERGE: each a walk, as the places of $ORDER, with the subscripts of a node. And how the copying of its nodes goes on.
use Rattle.std.specs.Prelude.{List, Option, None, Result, cond}
use Rattle.mspec.specs.Act.{Text, Act, ◌>>◌, give}
use Rattle.mspec.specs.Trees.{is_within}
use Rattle.mmeaning.specs.Variables.{Place}
use Rattle.mmeaning.specs.Merging.{subscripts_at, node_merged, next_after}
use Rattle.mspec.specs.KeyBytes.{AreSubscripts, IsAccountName}
use Rattle.mnodes.specs.declared.store.NodeStore.{Ghosts}
use Rattle.moperator.specs.declared.code.Code.{Code}
use Rattle.meval.specs.Evaluates.{Evaluates}
use Rattle.meval.specs.declared.eval.Eval.{Eval}
use Rattle.meval.specs.declared.place.Walk.{Walk}
use Rattle.meval.specs.declared.place.Walk.TheVariants as walk

abbrev pub IsCopy : Walk → Type 0
IsCopy (walk.Local name values) = AreSubscripts values
IsCopy (walk.Node node) = IsAccountName node.account × AreSubscripts node.subscripts

-- one node: it is assigned, and the next one is given; none, if it is past the source
abbrev pub node_passed : Place → Place → List Text → Act (Option (List Text))
node_passed to from ys = cond (is_within (subscripts_at from) ys) (node_merged to from ys >> next_after from ys) (give None)

-- what an act does from one evaluation on, another act does from another evaluation on
pub record Copies {S : Type 0} (g : Ghosts S) (p : Act (Unit {0})) (old : Eval S) (q : Act (Unit {0})) (mid : Eval S) : Type 0 where
  pub on : (r : Result (Unit {0}) Code) (new : Eval S) → Evaluates g (λ i. q) (λ (u : Unit {0}). u) mid r new
      → Evaluates g (λ i. p) (λ (u : Unit {0}). u) old r new
