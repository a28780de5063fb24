-- SPDX-License-Identifier: Apache-2.0
use Rattle.mexec.proofs.ExecLaws.{List, Text, Act, ◌>>=◌, read_so, at_read, ArgTree, FormTree, form_of, keyword_tree}
use Rattle.mexec.proofs.ExecLaws.{within_indirection, Context, context, depth_of}
use Rattle.mexec.proofs.ExecLaws.{position_of, Zsyntax, Completion, further_on, further_failed}
use Rattle.mexec.proofs.ExecLaws.{runs_wanting, at_yielded, list_entered}
use Rattle.mgrammar.specs.Languages.{args_in}
use Rattle.mexec.proofs.indirection.giving_value.Goals as goal

-- once the arguments are known
abbrev listed : Context → List ArgTree → Act Completion
listed x args = x.texts.list (within_indirection x.position) args

-- once an indirection is free
abbrev read : Context → FormTree → Text → Act Completion
read x f text = read_so Zsyntax (λ l. args_in f l text) >>= listed x

pub returns-in_err-depth-clause-does : goal.returns-in_err-depth-clause-does
returns-in_err-depth-clause-does g c =
    let p = position_of c.args.position.now in
    further_failed (λ a n _. read (context a n p) (form_of (keyword_tree c.args.keyword)) c.args.value) (at_yielded c.in_err-depth.ensures.does) c.from_residual.ensures

pub returns-in_err-text-clause-does : goal.returns-in_err-text-clause-does
returns-in_err-text-clause-does g c =
    let p = position_of c.args.position.now in
    further_on (λ a n _. read (context a n p) (form_of (keyword_tree c.args.keyword)) c.args.value) (at_yielded c.in_ok-depth.ensures.does)
    (runs_wanting _ _ c.from_residual-in_err-text.ensures)

pub returns-in_err-args-clause-does : goal.returns-in_err-args-clause-does
returns-in_err-args-clause-does g c =
    let p = position_of c.args.position.now in
    let f = form_of (keyword_tree c.args.keyword) in
    let tree = rw (c.as_bytes.ensures.bytes, c.in_ok-text.ensures, c.language-language.ensures.language) at c.in_err-args.ensures.does in
    further_on (λ a n _. read (context a n p) f c.args.value) (at_yielded c.in_ok-depth.ensures.does)
    (further_failed (λ a n. listed (context a n p)) (at_read Zsyntax (λ l. args_in f l c.args.value) tree) c.from_residual-in_err-args.ensures)

pub returns-in_err-leave_given-clause-does : goal.returns-in_err-leave_given-clause-does
returns-in_err-leave_given-clause-does g c =
    let p = position_of c.args.position.now in
    let f = form_of (keyword_tree c.args.keyword) in
    let tree = rw (c.as_bytes.ensures.bytes, c.in_ok-text.ensures, c.language-language.ensures.language) at c.in_ok-args.ensures.does in
    further_on (λ a n _. read (context a n p) f c.args.value) (at_yielded c.in_ok-depth.ensures.does)
    (further_on (λ a n. listed (context a n p)) (at_read Zsyntax (λ l. args_in f l c.args.value) tree) (runs_wanting _ _ c.from_residual-in_err-leave_given.ensures))

pub returns-clause-does : goal.returns-clause-does
returns-clause-does g c =
    let p = position_of c.args.position.now in
    let f = form_of (keyword_tree c.args.keyword) in
    let tree = rw (c.as_bytes.ensures.bytes, c.in_ok-text.ensures, c.language-language.ensures.language) at c.in_ok-args.ensures.does in
    rw c.in_ok-leave_given.ensures.frames
    (further_on (λ a n _. read (context a n p) f c.args.value) (at_yielded c.in_ok-depth.ensures.does)
    (further_on (λ a n. listed (context a n p)) (at_read Zsyntax (λ l. args_in f l c.args.value) tree)
    (list_entered p (depth_of c.in_ok-depth.depth) c.in_ok-depth.ensures.deeper _)))

pub read_arguments-requires : goal.read_arguments-requires
read_arguments-requires g c = c.language-language.ensures.known

pub leave_given-requires-clause-played : goal.leave_given-requires-clause-played
leave_given-requires-clause-played g c = c.in_ok-args.ensures.played

pub leave_given-requires-clause-stepped : goal.leave_given-requires-clause-stepped
leave_given-requires-clause-stepped g c = c.in_ok-args.ensures.stepped
