-- SPDX-License-Identifier: Apache-2.0
-- The tests of names and subscripts decide what can be the account and the subscripts of a node.
use Rattle.mspec.proofs.SpecWords.{◌≡◌, ◌-◌, Bool, true, false, List, length, All, refl, sym, arith, ◌↔◌, IsTrue, nat_lt, nat_le, list_all, and_parts, and_from}
use Rattle.mspec.proofs.SpecWords.{ltb-true, leb-true, lt-ltb, le-leb, AllPass-from_list_all, list_all-from_AllPass, length-take-le, Text, is_name_rest}
use Rattle.mspec.proofs.SpecWords.{IsAccountName, IsSubscript, AreSubscripts, front, last, AreOrderSubscripts, ◌&&◌}
use Rattle.mspec.specs.Subscripts.{is_account_name, is_subscript, are_subscripts, are_order_subscripts}

pub account_name_is : (t : Text) → is_account_name t ≡ true → IsAccountName t
account_name_is t e =
    let (some, rest) = and_parts (nat_lt 0 (length t)) (nat_le (length t) 16 && list_all is_name_rest t) e in
    let (few, each) = and_parts (nat_le (length t) 16) (list_all is_name_rest t) rest in
    record { some = ltb-true 0 (length t) some; few = leb-true (length t) 16 few; each = AllPass-from_list_all is_name_rest t each }

pub account_name_test : (t : Text) → IsAccountName t → is_account_name t ≡ true
account_name_test t name =
    and_from _ _ (lt-ltb 0 (length t) name.some) (and_from _ _ (le-leb (length t) 16 name.few) (list_all-from_AllPass is_name_rest t name.each))

subscript_is : (x : Text) → is_subscript x ≡ true → IsSubscript x
subscript_is x e =
    let (some, few) = and_parts (nat_lt 0 (length x)) (nat_le (length x) 255) e in
    record { some = ltb-true 0 (length x) some; few = leb-true (length x) 255 few }

subscript_test : (x : Text) → IsSubscript x → is_subscript x ≡ true
subscript_test x is = and_from _ _ (lt-ltb 0 (length x) is.some) (le-leb (length x) 255 is.few)

each_is : (xs : List Text) → list_all is_subscript xs ≡ true → All IsSubscript xs
each_is xs e k d within = subscript_is _ (AllPass-from_list_all is_subscript xs e k d within)

each_test : (xs : List Text) → All IsSubscript xs → list_all is_subscript xs ≡ true
each_test xs all = list_all-from_AllPass is_subscript xs (λ k d within. subscript_test _ (all k d within))

pub subscripts_are : (xs : List Text) → are_subscripts xs ≡ true → AreSubscripts xs
subscripts_are xs e =
    let (few, each) = and_parts (nat_le (length xs) 15) (list_all is_subscript xs) e in
    record { few = leb-true (length xs) 15 few; each = each_is xs each }

pub subscripts_test : (xs : List Text) → AreSubscripts xs → are_subscripts xs ≡ true
subscripts_test xs are = and_from _ _ (le-leb (length xs) 15 are.few) (each_test xs are.each)

pub order_subscripts_are : (xs : List Text) → are_order_subscripts xs ≡ true → AreOrderSubscripts xs
order_subscripts_are xs e =
    let (some, rest) = and_parts (nat_lt 0 (length xs)) (nat_le (length xs) 15 && (list_all is_subscript (front xs) && nat_le (length (last xs)) 255)) e in
    let (few, rest) = and_parts (nat_le (length xs) 15) (list_all is_subscript (front xs) && nat_le (length (last xs)) 255) rest in
    let (before, short) = and_parts (list_all is_subscript (front xs)) (nat_le (length (last xs)) 255) rest in
    record {
      some = ltb-true 0 (length xs) some;
      few = leb-true (length xs) 15 few;
      before = record { few = omega (arith, length-take-le (length xs - 1) xs (omega arith), leb-true (length xs) 15 few); each = each_is (front xs) before };
      short = leb-true (length (last xs)) 255 short;
    }

pub order_subscripts_test : (xs : List Text) → AreOrderSubscripts xs → are_order_subscripts xs ≡ true
order_subscripts_test xs are =
    and_from _ _ (lt-ltb 0 (length xs) are.some)
    (and_from _ _ (le-leb (length xs) 15 are.few) (and_from _ _ (each_test (front xs) are.before.each) (le-leb (length (last xs)) 255 are.short)))

-- two tests that decide the same are one
same_test : (P : Type 0) (a b : Bool) → IsTrue a ↔ P → (b ≡ true → P) → (P → b ≡ true) → a ≡ b
same_test P true b (to, from) is test = sym (test (to refl))
same_test P false true (to, from) is test = from (is refl)
same_test P false false (to, from) is test = refl

pub decides_subscripts : (b : Bool) (xs : List Text) → IsTrue b ↔ AreSubscripts xs → b ≡ are_subscripts xs
decides_subscripts b xs decides = same_test (AreSubscripts xs) b (are_subscripts xs) decides (subscripts_are xs) (subscripts_test xs)

pub decides_order_subscripts : (b : Bool) (xs : List Text) → IsTrue b ↔ AreOrderSubscripts xs → b ≡ are_order_subscripts xs
decides_order_subscripts b xs decides = same_test (AreOrderSubscripts xs) b (are_order_subscripts xs) decides (order_subscripts_are xs) (order_subscripts_test xs)

pub decides_account_name : (b : Bool) (t : Text) → IsTrue b ↔ IsAccountName t → b ≡ is_account_name t
decides_account_name b t decides = same_test (IsAccountName t) b (is_account_name t) decides (account_name_is t) (account_name_test t)
