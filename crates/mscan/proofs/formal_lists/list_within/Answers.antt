-- SPDX-License-Identifier: Apache-2.0
use Rattle.std.proofs.Common.{◌≡◌, length, Some, None, sym, ◌∙◌}
use Rattle.mgrammar.specs.ReadingWords.{name_at, past, many, after_comma}
use Rattle.mscan.proofs.ListedNames.{behind, empty_list, unnamed, unlisted, unclosed, taken, refused}
use Rattle.mscan.proofs.formal_lists.list_within.Goals as goal

pub returns-in-Some : goal.returns-in-Some
returns-in-Some c =
    let closed : past 41 c.args.inside.now ≡ Some c.in-Some.rest.now = sym (rw c.in-Some.is at c.past.ensures) in
    sym (empty_list c.args.inside.now c.in-Some.rest.now closed)

pub returns-in_default-name_bytes : goal.returns-in_default-name_bytes
returns-in_default-name_bytes c =
    let begins : past 41 c.args.inside.now ≡ None = sym (rw c.in_default.is at c.past.ensures) in
    let none : name_at c.args.inside.now ≡ None = sym (rw c.in_default-name_bytes.is at c.name_bytes.ensures.name) in
    sym (unnamed c.args.inside.now begins none)

pub returns-in_default-behind_names : goal.returns-in_default-behind_names
returns-in_default-behind_names c =
    let more = c.in-Some-name_bytes.more.now in
    let begins : past 41 c.args.inside.now ≡ None = sym (rw c.in_default.is at c.past.ensures) in
    let named : name_at c.args.inside.now ≡ Some (c.in-Some-name_bytes.first.now, more) = sym (rw c.in-Some-name_bytes.is at c.name_bytes.ensures.name) in
    let none : behind (many (after_comma name_at) (length more) more) ≡ None = sym (rw c.in_default-behind_names.is at c.behind_names.ensures) in
    sym (unlisted c.args.inside.now begins c.in-Some-name_bytes.first.now more named none)

pub returns-in_default-past : goal.returns-in_default-past
returns-in_default-past c =
    let more = c.in-Some-name_bytes.more.now in
    let begins : past 41 c.args.inside.now ≡ None = sym (rw c.in_default.is at c.past.ensures) in
    let named : name_at c.args.inside.now ≡ Some (c.in-Some-name_bytes.first.now, more) = sym (rw c.in-Some-name_bytes.is at c.name_bytes.ensures.name) in
    let ends : behind (many (after_comma name_at) (length more) more) ≡ Some c.in-Some-behind_names.behind.now = sym (rw c.in-Some-behind_names.is at c.behind_names.ensures) in
    let unended : past 41 c.in-Some-behind_names.behind.now ≡ None = sym (rw c.in_default-past.is at c.past-2.ensures) in
    sym (unclosed c.args.inside.now begins c.in-Some-name_bytes.first.now more named c.in-Some-behind_names.behind.now ends unended)

pub returns-then-are_distinct : goal.returns-then-are_distinct
returns-then-are_distinct c =
    let more = c.in-Some-name_bytes.more.now in
    let begins : past 41 c.args.inside.now ≡ None = sym (rw c.in_default.is at c.past.ensures) in
    let named : name_at c.args.inside.now ≡ Some (c.in-Some-name_bytes.first.now, more) = sym (rw c.in-Some-name_bytes.is at c.name_bytes.ensures.name) in
    let ends : behind (many (after_comma name_at) (length more) more) ≡ Some c.in-Some-behind_names.behind.now = sym (rw c.in-Some-behind_names.is at c.behind_names.ensures) in
    let closed : past 41 c.in-Some-behind_names.behind.now ≡ Some c.in-Some-past.rest.now = sym (rw c.in-Some-past.is at c.past-2.ensures) in
    sym (taken c.args.inside.now begins c.in-Some-name_bytes.first.now more named c.in-Some-behind_names.behind.now c.in-Some-past.rest.now ends closed
    (sym c.are_distinct.ensures ∙ c.if-are_distinct.true))

pub returns-else-are_distinct : goal.returns-else-are_distinct
returns-else-are_distinct c =
    let more = c.in-Some-name_bytes.more.now in
    let begins : past 41 c.args.inside.now ≡ None = sym (rw c.in_default.is at c.past.ensures) in
    let named : name_at c.args.inside.now ≡ Some (c.in-Some-name_bytes.first.now, more) = sym (rw c.in-Some-name_bytes.is at c.name_bytes.ensures.name) in
    let ends : behind (many (after_comma name_at) (length more) more) ≡ Some c.in-Some-behind_names.behind.now = sym (rw c.in-Some-behind_names.is at c.behind_names.ensures) in
    let closed : past 41 c.in-Some-behind_names.behind.now ≡ Some c.in-Some-past.rest.now = sym (rw c.in-Some-past.is at c.past-2.ensures) in
    sym (refused c.args.inside.now begins c.in-Some-name_bytes.first.now more named c.in-Some-behind_names.behind.now c.in-Some-past.rest.now ends closed
    (sym c.are_distinct.ensures ∙ c.if-are_distinct.false))
