-- SPDX-License-Identifier: Apache-2.0
-- The names of locks, with and without a `^`.
use Rattle.meval.proofs.EvalWords.{LockName, Node, true, false, List, Text, Bool, ◌≡◌, refl, subst, ◌>>◌, give, unless, are_subscripts, Yields, Ok, Err}
use Rattle.meval.proofs.EvalWords.{Code, fault_of, Zsub, yields_gives, Standing, cond, sym, ap, ◌∙◌, text_eq}
use Rattle.mmeaning.specs.Shared.{may_lock, may_write}
use Rattle.mspec.specs.Code as spec
use Rattle.meval.specs.Acts.{lock_of}

abbrev pub global_name : Node → LockName
global_name n = record { global = true; node = n }

abbrev pub local_name : Text → Text → List Text → LockName
local_name me name xs = record { global = false; node = record { account = me; name = name; subscripts = xs } }

-- ---- names that are kept

abbrev pub lock_at : Bool → Node → LockName
lock_at is_global n = record { global = is_global; node = n }

-- the subscripts are those of a node
pub lock_told : (is_global : Bool) (n : Node) (x : LockName) → are_subscripts n.subscripts ≡ true → x ≡ lock_at is_global n
    → Yields {E = Code} fault_of (lock_of is_global n) (λ (name : LockName). name) (Ok x)
lock_told is_global n x are is =
    subst (λ b. Yields {E = Code} fault_of (unless spec.Zsub b >> give (lock_at is_global n)) (λ (name : LockName). name) (Ok x)) (sym are)
    (record { ends = (yields_gives {E = Code} {fault_of = fault_of} (lock_at is_global n) (λ (name : LockName). name) x is).ends })

-- they are not
pub lock_refused : (is_global : Bool) (n : Node) → are_subscripts n.subscripts ≡ false
    → Yields {E = Code} fault_of (lock_of is_global n) (λ (name : LockName). name) (Err Zsub)
lock_refused is_global n are =
    subst (λ b. Yields {E = Code} fault_of (unless spec.Zsub b >> give (lock_at is_global n)) (λ (name : LockName). name) (Err Zsub)) (sym are)
    (record { ends = λ s. refl })

-- a name of these parts
pub same_lock : (is_global : Bool) (n : Node) (account name : Text) (xs : List Text) → account ≡ n.account → name ≡ n.name → xs ≡ n.subscripts
    → ◌≡◌ {A = LockName} (record { global = is_global; node = record { account = account; name = name; subscripts = xs } }) (lock_at is_global n)
same_lock is_global n account name xs a b c = rw (a, b, c) refl

-- who may lock a name with a `^`, and one without
abbrev pub lock_name_of : Bool → Text → Text → List Text → LockName
lock_name_of is_global account name xs = lock_at is_global (record { account = account; name = name; subscripts = xs })

pub locks_global : (b : Standing) (l : LockName) (r : Bool) → l.global ≡ true → r ≡ may_write b.settings b.account l.node → r ≡ may_lock b.settings b.account l
locks_global b l r is may = may ∙ sym (ap (λ c. cond c (may_write b.settings b.account l.node) (text_eq l.node.account b.account)) is)

pub locks_local : (b : Standing) (l : LockName) (r : Bool) → l.global ≡ false → r ≡ text_eq l.node.account b.account → r ≡ may_lock b.settings b.account l
locks_local b l r is own = own ∙ sym (ap (λ c. cond c (may_write b.settings b.account l.node) (text_eq l.node.account b.account)) is)
