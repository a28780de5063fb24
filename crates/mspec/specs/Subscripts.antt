-- SPDX-License-Identifier: Apache-2.0
-- Whether texts can be the account and the subscripts of a node, as tests that compute.
use Rattle.std.specs.Prelude.{Bool, ◌&&◌, nat_le, nat_lt, List, length}
use Rattle.std.specs.List.{list_all}
use Rattle.mspec.specs.Limits.{max_account_name, max_subscript, max_subscripts}
use Rattle.mspec.specs.Node.{Text}
use Rattle.mspec.specs.Names.{is_name_rest}
use Rattle.mspec.specs.Trees.{front, last}

-- an account's name: 1 to 16 letters or digits
abbrev pub is_account_name : Text → Bool
is_account_name name = nat_lt 0 (length name) && (nat_le (length name) max_account_name && list_all is_name_rest name)

abbrev pub is_subscript : Text → Bool
is_subscript x = nat_lt 0 (length x) && nat_le (length x) max_subscript

-- those of a node
abbrev pub are_subscripts : List Text → Bool
are_subscripts xs = nat_le (length xs) max_subscripts && list_all is_subscript xs

-- those with which $ORDER is asked: at least one, and the last may be empty
abbrev pub are_order_subscripts : List Text → Bool
are_order_subscripts xs =
    nat_lt 0 (length xs) && (nat_le (length xs) max_subscripts && (list_all is_subscript (front xs) && nat_le (length (last xs)) max_subscript))
