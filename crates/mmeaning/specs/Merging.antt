-- SPDX-License-Identifier: Apache-2.0
-- MERGE: the texts at and below a node of one variable, assigned to the same places below a node of another.
--
-- Restates "MERGE" of ISO/IEC 11756:1999. Each node that has a text is assigned by itself, in the order of the source's nodes, and costs a
-- step: so what ends the line leaves a first part of them.
use Rattle.std.specs.Prelude.{ℕ, zero, suc, Bool, true, false, cond, not, ◌&&◌, ◌||◌, List, [], ◌∷◌, ◌++◌, length, drop, Option, Some, None, is_some}
use Rattle.mspec.specs.Code.{M19, Zsteps, Zsub}
use Rattle.mspec.specs.Trees.{Forward, is_within}
use Rattle.mspec.specs.Globals.{is_beside}
use Rattle.mspec.specs.Scopes.{are_one, next_node}
use Rattle.mspec.specs.Subscripts.{are_subscripts}
use Rattle.mspec.specs.Plan.{Following}
use Rattle.mspec.specs.Act.{Text, Node, Act, ◌>>=◌, ◌>>◌, give, fail, unless, ask, charge, of_locals, set_naked}
use Rattle.mgrammar.specs.Grammar.{ReferenceTree}
use Rattle.mmeaning.specs.Variables.{Evaluated, of_local, of_global, of_naked, Place, at_local, at_node, Use, mode_of, reading, writing, checked, allowed}
use Rattle.mmeaning.specs.Variables.{beside, read_at, found_at, put_at}
use Rattle.mmeaning.specs.Expression.{Inside, evaluated}

abbrev pub subscripts_at : Place → List Text
subscripts_at (at_local name xs) = xs
subscripts_at (at_node n) = n.subscripts

-- another place of the same variable
abbrev pub at_subscripts : Place → List Text → Place
at_subscripts (at_local name xs) ys = at_local name ys
at_subscripts (at_node n) ys = at_node (record n { subscripts = ys })

-- the checks of a reference, as `resolve` has them, but that no node is referred to yet
abbrev pub node_sought : Use → Node → Act Place
node_sought u n = do
  allowed (mode_of u) n
  checked u n.subscripts
  give (at_node n)

abbrev pub sought : Use → Evaluated → Act Place
sought u (of_local name xs) = checked u xs >> give (at_local name xs)
sought u (of_global n) = node_sought u n
sought u (of_naked xs) = do
  n ← beside xs
  node_sought u n

-- a node is then the one that was referred to last
abbrev pub referred_to : Place → Act (Unit {0})
referred_to (at_local name xs) = give tt
referred_to (at_node n) = set_naked (Some n)

-- whether two places are of one variable, by whatever names
abbrev pub of_one : Place → Place → Act Bool
of_one (at_local a xs) (at_local b ys) = of_locals (λ l. are_one l a b)
of_one (at_node n) (at_node m) = give (is_beside n m)
of_one p q = give false

-- Whether there is something to copy between these subscripts, of one variable or of two. There is not from a node to itself, and one that
-- is above the other, or below it, is refused.
abbrev pub apart : Bool → List Text → List Text → Act Bool
apart false xs ys = give true
apart true xs ys = cond (is_within xs ys && is_within ys xs) (give false) (unless M19 (not (is_within xs ys || is_within ys xs)) >> give true)

-- the next node of a place's variable that has a text, after these subscripts
abbrev pub next_after : Place → List Text → Act (Option (List Text))
next_after (at_local name xs) ys = of_locals (λ l. next_node l Forward name ys)
next_after (at_node n) ys = ask (Following Forward (record n { subscripts = ys }))

-- the node itself, if it has a text, and otherwise the next one
abbrev pub first_node : Place → Act (Option (List Text))
first_node p = do
  found ← found_at p
  cond (is_some found) (give (Some (subscripts_at p))) (next_after p (subscripts_at p))

-- what stands below the target for a node at or below the source
abbrev pub counterpart : Place → Place → List Text → List Text
counterpart to from ys = subscripts_at to ++ drop (length (subscripts_at from)) ys

abbrev pub node_merged : Place → Place → List Text → Act (Unit {0})
node_merged to from ys = do
  charge
  unless Zsub (are_subscripts (counterpart to from ys))
  x ← read_at (at_subscripts from ys)
  put_at (at_subscripts to (counterpart to from ys)) x

-- From this node on, up to the first that is not at or below the source. As each takes a step, there are at most as many as there are
-- steps, of which this number is one more.
unfoldable pub nodes_merged : ℕ → Place → Place → Option (List Text) → Act (Unit {0})
nodes_merged n to from None = give tt
nodes_merged zero to from (Some ys) = fail Zsteps
nodes_merged (suc n) to from (Some ys) =
    cond (is_within (subscripts_at from) ys) (node_merged to from ys >> (next_after from ys >>= nodes_merged n to from)) (give tt)

abbrev pub merged_within : ℕ → Place → Place → Act (Unit {0})
merged_within n to from = first_node from >>= nodes_merged n to from

abbrev pub merged : Place → Place → Act (Unit {0})
merged to from s = merged_within (suc s.steps) to from s

-- from the one place to the other; if one is above the other, the target is not referred to
abbrev pub copied : Place → Place → Act (Unit {0})
copied to from = do
  one ← of_one to from
  copies ← apart one (subscripts_at to) (subscripts_at from)
  referred_to to
  cond copies (merged to from) (give tt)

-- Once both are evaluated, the target first: the source is checked for a read, and then the target for a write, so that a naked target is
-- beside the source.
abbrev pub merge_found : Evaluated → Evaluated → Act (Unit {0})
merge_found v w = do
  from ← sought reading w
  referred_to from
  to ← sought writing v
  copied to from

abbrev pub merging : Inside → ReferenceTree → ReferenceTree → Act (Unit {0})
merging i target source = do
  v ← evaluated i target
  w ← evaluated i source
  merge_found v w
