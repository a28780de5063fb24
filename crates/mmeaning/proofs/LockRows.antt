-- SPDX-License-Identifier: Apache-2.0
-- LOCK and HALT of several terminals on examples, as proved equations.
use Rattle.mmeaning.proofs.MeaningWords.{rules, nat_cmp, M6, M9, Zlocked, Zsyntax, Session, World, Halted, FinMap, insert, remove, LockName, Locks, held}
use Rattle.mmeaning.proofs.MeaningWords.{divide, number, global, naked, exprs, no_exprs, anew, adding, lock_one, lock_argument, locked, ref_in, args_in}
use Rattle.mmeaning.proofs.MeaningWords.{reads_in, ℕ}
use Rattle.mmeaning.proofs.LineTrees.{only, with_operator}
use Rattle.mmeaning.proofs.LockRuns.{AreReplied, replied_first, replied_last, plain_session, halted, computed_locks}
use Rattle.mmeaning.proofs.Running.{◌≡◌, List, [], ◌∷◌, Some, None, true, false, refl, codes, empty, Text, opening, done, failed, computed_operations, runs}
use Rattle.mmeaning.proofs.Running.{running, at_column}

ruleset lock_running = (computed_operations, computed_locks, running)

-- a world of these locks, with these sessions
abbrev world : Locks → FinMap nat_cmp Session → World
world locks sessions = record { shared = record { globals = (opening empty).shared.globals; locks = locks }; sessions = sessions }

-- names with a `^`, of ALICE and of BOB, and her name without one
abbrev hers : Text → List Text → LockName
hers name subscripts = record { global = true; node = record { account = codes "ALICE"; name = name; subscripts = subscripts } }

abbrev his : Text → List Text → LockName
his name subscripts = record { global = true; node = record { account = codes "BOB"; name = name; subscripts = subscripts } }

abbrev her_local : Text → LockName
her_local name = record { global = false; node = record { account = codes "ALICE"; name = name; subscripts = [] } }

-- $TEST is 0, and 1
abbrev no_test : Session
no_test = plain_session false

abbrev true_test : Session
true_test = plain_session true

-- after this many characters of output
abbrev after : ℕ → Session → Session
after n s = record s { cursor = at_column n }

-- sessions of terminals 1 and 2
abbrev one_session : FinMap nat_cmp Session
one_session = insert empty 1 no_test

abbrev one_session_after : ℕ → FinMap nat_cmp Session
one_session_after n = insert empty 1 (after n no_test)

-- a name, those above and those below exclude each other, in one account; if a line halts, the locks of its session go with it
locks_between_terminals : AreReplied (opening empty) ((1, codes "L +^J(1)") ∷ (2, codes "L +^J:0 W $T") ∷ (3, codes "L +^J(1):0 W $T") ∷ (2, codes "L ^J(1,5)") ∷ (1, codes "S V=1 H") ∷ (1, codes "W V") ∷ (2, codes "L +^J:0 W $T") ∷ []) (done [] ∷ done (codes "0") ∷ done (codes "1") ∷ failed [] Zlocked ∷ halted ∷ failed [] M6 ∷ done (codes "1") ∷ [])
unfolding runs
locks_between_terminals =
    replied_first (world (insert empty (held 1 (hers (codes "J") (codes "1" ∷ []))) 1) one_session) _ refl (simp lock_running)
    (replied_first (world (insert empty (held 1 (hers (codes "J") (codes "1" ∷ []))) 1) (insert one_session 2 (after 1 no_test))) _ refl (simp lock_running)
    (replied_first (world (insert (insert empty (held 1 (hers (codes "J") (codes "1" ∷ []))) 1) (held 3 (his (codes "J") (codes "1" ∷ []))) 1) (insert (insert one_session 2 (after 1 no_test)) 3 (after 1 true_test))) _ refl (simp lock_running)
    (replied_first (world (insert (insert empty (held 1 (hers (codes "J") (codes "1" ∷ []))) 1) (held 3 (his (codes "J") (codes "1" ∷ []))) 1) (insert (insert (insert one_session 2 (after 1 no_test)) 3 (after 1 true_test)) 2 (after 1 no_test))) _ refl (simp lock_running)
    (replied_first (world (insert empty (held 3 (his (codes "J") (codes "1" ∷ []))) 1) (remove (insert (insert (insert one_session 2 (after 1 no_test)) 3 (after 1 true_test)) 2 (after 1 no_test)) 1)) _ refl (simp lock_running)
    (replied_first (world (insert empty (held 3 (his (codes "J") (codes "1" ∷ []))) 1) (insert (remove (insert (insert (insert one_session 2 (after 1 no_test)) 3 (after 1 true_test)) 2 (after 1 no_test)) 1) 1 no_test)) _ refl (simp lock_running)
    (replied_last _ refl (simp lock_running)))))))

-- counts nest; a list is taken whole; a name without a `^` is another
nested_locks : AreReplied (opening empty) ((1, codes "L +^J,+^J,-^J") ∷ (2, codes "L +^J:0 W $T") ∷ (1, codes "L -^J") ∷ (2, codes "L +(^J,M):0 W $T") ∷ (1, codes "L M") ∷ []) (done [] ∷ done (codes "0") ∷ done [] ∷ done (codes "1") ∷ failed [] Zlocked ∷ [])
unfolding runs
nested_locks =
    replied_first (world (insert empty (held 1 (hers (codes "J") [])) 1) one_session) _ refl (simp lock_running)
    (replied_first (world (insert empty (held 1 (hers (codes "J") [])) 1) (insert one_session 2 (after 1 no_test))) _ refl (simp lock_running)
    (replied_first (world empty (insert (insert one_session 2 (after 1 no_test)) 1 no_test)) _ refl (simp lock_running)
    (replied_first (world (insert (insert empty (held 2 (hers (codes "J") [])) 1) (held 2 (her_local (codes "M"))) 1) (insert (insert (insert one_session 2 (after 1 no_test)) 1 no_test) 2 (after 2 true_test))) _ refl (simp lock_running)
    (replied_last _ refl (simp lock_running)))))

-- nothing is released before all is evaluated, and a timeout is no number
nothing_released_before : AreReplied (opening empty) ((1, codes "L ^X") ∷ (1, codes "L ^Y(1/0)") ∷ (1, codes "L ^Y:1/0") ∷ (2, codes "L +^X:0 W $T") ∷ (1, codes "L +^Y:\"1E30\" W $T") ∷ []) (done [] ∷ failed [] M9 ∷ failed [] M9 ∷ done (codes "0") ∷ done (codes "1") ∷ [])
unfolding runs
nothing_released_before =
    replied_first (world (insert empty (held 1 (hers (codes "X") [])) 1) one_session) _ refl (simp lock_running)
    (replied_first (world (insert empty (held 1 (hers (codes "X") [])) 1) one_session) _ refl (simp lock_running)
    (replied_first (world (insert empty (held 1 (hers (codes "X") [])) 1) one_session) _ refl (simp lock_running)
    (replied_first (world (insert empty (held 1 (hers (codes "X") [])) 1) (insert one_session 2 (after 1 no_test))) _ refl (simp lock_running)
    (replied_last _ refl (simp lock_running)))))

-- a name that is twice in a list counts twice, and each argument without a sign releases
list_counts_twice : AreReplied (opening empty) ((1, codes "L +(^X,^X) L -^X") ∷ (2, codes "L +^X:0 W $T") ∷ (1, codes "L -(^X,^X):0 W $T") ∷ (2, codes "L +^X:0 W $T") ∷ (1, codes "L ^Y,^Z") ∷ (2, codes "L +^Y:0 W $T") ∷ []) (done [] ∷ done (codes "0") ∷ done (codes "1") ∷ done (codes "1") ∷ done [] ∷ done (codes "1") ∷ [])
unfolding runs
list_counts_twice =
    replied_first (world (insert empty (held 1 (hers (codes "X") [])) 1) one_session) _ refl (simp lock_running)
    (replied_first (world (insert empty (held 1 (hers (codes "X") [])) 1) (insert one_session 2 (after 1 no_test))) _ refl (simp lock_running)
    (replied_first (world empty (insert (insert one_session 2 (after 1 no_test)) 1 (after 1 true_test))) _ refl (simp lock_running)
    (replied_first (world (insert empty (held 2 (hers (codes "X") [])) 1) (insert (insert (insert one_session 2 (after 1 no_test)) 1 (after 1 true_test)) 2 (after 2 true_test))) _ refl (simp lock_running)
    (replied_first (world (insert (insert empty (held 2 (hers (codes "X") [])) 1) (held 1 (hers (codes "Z") [])) 1) (insert (insert (insert (insert one_session 2 (after 1 no_test)) 1 (after 1 true_test)) 2 (after 2 true_test)) 1 (after 1 true_test))) _ refl (simp lock_running)
    (replied_last _ refl (simp lock_running))))))

-- ---- names and arguments that a text gives

record TextsRead : Type 0 where
  naked_1 : ref_in 0 (codes "^(1)") ≡ Some (naked (exprs (only (number (codes "1"))) no_exprs))
  naked_error : ref_in 0 (codes "^(1/0)") ≡ Some (naked (exprs (with_operator (number (codes "1")) divide (number (codes "0"))) no_exprs))
  two_globals : ref_in 0 (codes "^X,^Y") ≡ None
  no_naked_lock : args_in lock_argument 0 (codes "^(1)") ≡ None
  two_locks : args_in lock_argument 0 (codes "^X,+^Y:0") ≡ Some (locked anew (lock_one (global (codes "X") no_exprs)) None ∷ locked adding (lock_one (global (codes "Y") no_exprs)) (Some (only (number (codes "0")))) ∷ [])

texts_read : TextsRead
unfolding reads_in
texts_read = search rules

-- a naked reference is none: where it is written the line has no tree, nor has a text of arguments; of one that a text names the
-- subscripts are evaluated first
naked_locks : AreReplied (opening empty) ((1, codes "W 1 L +^(1)") ∷ (1, codes "W 1 L @\"^(1)\"") ∷ (1, codes "W 1 L +@\"^(1)\"") ∷ (1, codes "L +@\"^(1/0)\"") ∷ (1, codes "L +@\"^(1)\"@(1/0)") ∷ (1, codes "L +(@\"^(1)\",^X(1/0))") ∷ []) (failed [] Zsyntax ∷ failed (codes "1") Zsyntax ∷ failed (codes "1") Zsyntax ∷ failed [] M9 ∷ failed [] M9 ∷ failed [] Zsyntax ∷ [])
unfolding runs
naked_locks =
    replied_first (world empty one_session) _ refl (simp lock_running)
    (replied_first (world empty (one_session_after 1)) _ refl (simp lock_running)
    (replied_first (world empty (one_session_after 2)) _ refl (simp lock_running)
    (replied_first (world empty (one_session_after 2)) _ refl (simp lock_running)
    (replied_first (world empty (one_session_after 2)) _ refl (simp lock_running)
    (replied_last _ refl (simp lock_running))))))

-- a timeout after it makes an operand a name
locks_given : AreReplied (opening empty) ((1, codes "L @\"^X,^Y\":0") ∷ (1, codes "L @\"^X,+^Y:0\" W $T") ∷ []) (failed [] Zsyntax ∷ done (codes "1") ∷ [])
unfolding runs
locks_given =
    replied_first (world empty one_session) _ refl (simp lock_running)
    (replied_last _ refl (simp lock_running))

-- ---- HALT

-- what was written is replied, from within turns of a FOR too
output_before_halt : AreReplied (opening empty) ((1, codes "W 1 H  W 2") ∷ (1, codes "F I=1:1 W I H:I=2") ∷ []) (record { out = codes "1"; ending = Halted } ∷ record { out = codes "12"; ending = Halted } ∷ [])
unfolding runs
output_before_halt =
    replied_first (world empty (remove empty 1)) _ refl (simp lock_running)
    (replied_last _ refl (simp lock_running))
