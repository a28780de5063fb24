-- SPDX-License-Identifier: Apache-2.0
use Rattle.std.specs.Prelude.{false}
use Rattle.mmemory.proofs.MemoryLaws.{◌≡◌, [], get_or, arith, chunk_rows, nest, passes, shown_at, fails_later, none_later}
use Rattle.mmemory.proofs.tree.Tree.fails_from.Goals as goal

pub returns-in-Some : goal.returns-in-Some
returns-in-Some c fails =
    let chunks = c.args.self.now.chunks.items in
    let found = rw c.deref.ensures.value at c.in-Some.ensures.lookup in
    let is : get_or (nest chunks) c.args.chunk [] ≡ chunk_rows c.in-Some.next.now =
    shown_at chunk_rows chunks c.args.chunk [] c.in-Some.next.now found.3.0 found.1 in
    let no : passes c.args.probe (get_or (chunk_rows c.in-Some.next.now) 0 []) ≡ false = grind arith in
    fails_later (passes c.args.probe) chunks c.args.chunk c.requires found.3.0 (rw is no)

pub returns-in-None : goal.returns-in-None
returns-in-None c _ =
    let none = rw c.deref.ensures.value at (rw c.in-None.is at c.get.ensures.lookup).3 in
    none_later (passes c.args.probe) c.args.self.now.chunks.items c.args.chunk none
