-- SPDX-License-Identifier: Apache-2.0
use Rattle.meval.proofs.EvalLaws.{◌≡◌, Some, Ok, refl, sym, ap, ◌∙◌, subst, append-nil, give_some, ReferenceTree, local, no_exprs, reference_tree, Yields}
use Rattle.meval.proofs.EvalLaws.{yields_gives, fault_of, Code, variable_is}
use Rattle.std.proofs.Common.{ℕ, Option, arith}
use Rattle.mspec.specs.Code.{Zsyntax}
use Rattle.mspec.specs.Act.{Text}
use Rattle.mspec.specs.Names.{IsName}
use Rattle.mgrammar.specs.Languages.{ref_in}
use Rattle.mtree.proofs.InLanguages.{reference_kept}
use Rattle.mgrammar.proofs.ReadingIndirectTexts.{reads_its_reference}
use Rattle.mtree.specs.declared.tree.Reference.TheVariants as reference
use Rattle.meval.proofs.reading_reference.read_reference.Goals as goal

-- a name alone is read as the local variable without subscripts, in each language
name_read : (language : ℕ) (text : Text) → IsName text → ref_in language text ≡ Some (local text no_exprs)
name_read language text is =
    reference_kept language text (local text no_exprs) ((reads_its_reference text (local text no_exprs)).1 (append-nil text, (is, tt))) (omega arith)

pub returns-in-Ok : goal.returns-in-Ok
returns-in-Ok c =
    let is_name = c.in-Ok.ensures.when.0 refl in
    let same = c.in-Ok.ensures.name in
    subst (λ (x : Option ReferenceTree). Yields {E = Code} fault_of (give_some Zsyntax x) reference_tree (Ok (reference.Variable c.in-Ok.name))) (sym (name_read c.args.language c.args.text is_name))
    (yields_gives (local c.args.text no_exprs) reference_tree (reference.Variable c.in-Ok.name) (variable_is c.in-Ok.name ∙ ap (λ (n : Text). local n no_exprs) same))
