-- SPDX-License-Identifier: Apache-2.0
-- MERGE and $INCREMENT on examples, as proved equations. The values are GT.M's, and so is each code that is the standard's.
use Rattle.mmeaning.proofs.MeaningWords.{ℕ, zero, suc, List, Option, Some, None, cond, M1, M6, Zsub, Zover, Zsteps, Zsyntax, Act, ◌>>=◌, give, fail, Text}
use Rattle.mmeaning.proofs.MeaningWords.{Locals, World}
use Rattle.mmeaning.proofs.MeaningWords.{assigned_to, false, no_locals}
use Rattle.mspec.specs.Act.{◌>>◌}
use Rattle.mspec.specs.Code.{M19}
use Rattle.mspec.specs.Trees.{is_within}
use Rattle.mmeaning.specs.Variables.{Place}
use Rattle.mmeaning.specs.Merging.{subscripts_at, next_after, node_merged}
use Rattle.mmeaning.specs.Merging.{nodes_merged}
use Rattle.mmeaning.proofs.ExampleAccount.{alice_in}
use Rattle.mmeaning.proofs.LineRuns.{Opens, Cases, AreAnsweredEach}
use Rattle.mmeaning.proofs.Running.{[], ◌∷◌, refl, codes, empty, opening, done, failed, serving, at_column, at_case, at_first, at_last, no_more, runs, running}
use Rattle.mmeaning.proofs.Running.{AreAnswered}

abbrev EachIn : ℕ → Cases → Type 0
EachIn language cases = AreAnsweredEach (alice_in language) (opening empty) cases

-- a node is only looked at if the state is known, as a turn is
abbrev looked : ℕ → Place → Place → Option (List Text) → Act (Unit {0})
looked n to from None = give tt
looked zero to from (Some ys) = fail Zsteps
looked (suc n) to from (Some ys) =
    cond (is_within (subscripts_at from) ys) (node_merged to from ys >> (next_after from ys >>= nodes_merged n to from)) (give tt)

nodes_opened : (n : ℕ) (to from : Place) (o : Option (List Text)) → Opens (nodes_merged n to from o) (looked n to from o)
unfolding nodes_merged
nodes_opened n to from None locals naked test cursor out steps given = refl
nodes_opened zero to from (Some ys) locals naked test cursor out steps given = refl
nodes_opened (suc n) to from (Some ys) locals naked test cursor out steps given = refl

merges : EachIn 1 (
    -- a variable with its nodes, and those of the target that are not in the source stay
    (codes "S A=1,A(1)=2,B(1)=3,B(2)=4 M B=A W B,B(1),B(2)", done (codes "124")) ∷
    -- a node goes below another one, and what is beside it does not
    (codes "S A(1)=2,A(1,5)=3,A(2)=4 M B(7)=A(1) W B(7),B(7,5),$D(B),$D(B(8))", done (codes "23100")) ∷
    -- to another node of the same variable
    (codes "S A(1)=2,A(1,5)=3 M A(2)=A(1) W A(2),A(2,5),A(1)", done (codes "232")) ∷
    -- there is nothing to copy
    (codes "M A=B W $D(A)", done (codes "0")) ∷
    -- nor is there of a node to itself
    (codes "S A=1 M A=A W A", done (codes "1")) ∷
    -- one that is above its source, or below it, is refused
    (codes "S A(1)=1 M A=A(1) W 1", failed [] M19) ∷
    (codes "S A=1 M A(1)=A W 1", failed [] M19) ∷
    -- one argument after another, and those of a text
    (codes "S A=1 M B=A,C=B W C", done (codes "1")) ∷
    (codes "S A=1,C=\"B=A\" M @C W B", done (codes "1")) ∷
    -- a variable by its name; the target is evaluated first
    (codes "S A=1,B=\"C\" M @B@(2)=@\"A\" W C(2)", done (codes "1")) ∷
    (codes "M A($I(N))=B($I(N)*0),C(N)=N W $O(C(\"\"))", done (codes "2")) ∷
    (codes "M A(\"\")=B", failed [] Zsub) ∷
    (codes "M A=NO(X)", failed [] M6) ∷
    (codes "M A=^(1)", failed [] M1) ∷ [])
unfolding runs
merges =
    at_case _ refl (simp (running, nodes_opened)) (at_case _ refl (simp (running, nodes_opened)) (at_case _ refl (simp (running, nodes_opened)) (
    at_case _ refl (simp (running, nodes_opened)) (at_case _ refl (simp running) (at_case _ refl (simp running) (
    at_case _ refl (simp running) (at_case _ refl (simp (running, nodes_opened)) (at_case _ refl (simp (running, nodes_opened)) (
    at_case _ refl (simp (running, nodes_opened)) (at_case _ refl (simp (running, nodes_opened)) (at_case _ refl (simp running) (
    at_case _ refl (simp running) (at_case _ refl (simp running) no_more)))))))))))))

counters : EachIn 1 (
    -- 1 is added if no number is said, and a variable without a text counts as 0
    (codes "W $I(A),A,$INCREMENT(A,2),A,$i(A(1),-1),A(1)", done (codes "1133-1-1")) ∷
    -- of a text the number in front
    (codes "S A=\"2abc\" W $I(A,\"3x\"),A", done (codes "55")) ∷
    -- operands are evaluated from the left
    (codes "S A=1 W A_$I(A)_A", done (codes "122")) ∷
    -- the subscripts, then the number, and then the variable is looked up
    (codes "W $I(A,$I(A)),A", done (codes "22")) ∷
    (codes "W $I(A($I(N)),$I(N)),A(1)", done (codes "22")) ∷
    (codes "W $I(A,NO)", failed [] M6) ∷
    (codes "W $I(A(\"\"),NO)", failed [] M6) ∷
    (codes "W $I(A(\"\"))", failed [] Zsub) ∷
    (codes "W $I(^(1))", failed [] M1) ∷
    -- a text that was there stays if the sum is too large
    (codes "S A=\"9E17\" W A W $I(A,A)", failed (codes "9E17") Zover) ∷ [])
unfolding runs
counters =
    at_case _ refl (simp running) (at_case _ refl (simp running) (at_case _ refl (simp running) (at_case _ refl (simp running) (
    at_case _ refl (simp running) (at_case _ refl (simp running) (at_case _ refl (simp running) (at_case _ refl (simp running) (
    at_case _ refl (simp running) (at_case _ refl (simp running) no_more)))))))))

profile : EachIn 0 (
    (codes "W 1 M A=B", failed [] Zsyntax) ∷
    (codes "W 1,$I(A)", failed [] Zsyntax) ∷ [])
unfolding runs
profile = at_case _ refl (simp running) (at_case _ refl (simp running) no_more)

-- each node costs a step, and what was copied before the steps ran out stays: with two steps the command has one, and the first node another
abbrev put : Text → List Text → Text → Locals → Locals
put name xs x l = assigned_to l name xs x

abbrev two : Locals
two = put (codes "A") (codes "1" ∷ []) (codes "2") (put (codes "A") [] (codes "1") no_locals)

abbrev with_locals : Locals → World
with_locals l = serving (record { locals = l; naked = None; test = false; cursor = at_column 0 })

cut_short : AreAnswered (record (alice_in 1) { steps = 2 }) (with_locals two) (codes "M B=A" ∷ codes "W $D(B)" ∷ []) (failed [] Zsteps ∷ done (codes "1") ∷ [])
unfolding runs
cut_short = at_first (with_locals (put (codes "B") [] (codes "1") two)) _ refl (simp (running, nodes_opened)) (at_last _ refl (simp running))
