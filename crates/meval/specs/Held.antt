-- SPDX-License-Identifier: Apache-2.0
-- Values, accounts and names as they are held, by their texts.
use Rattle.std.specs.Prelude.{List, [], ◌∷◌}
use Rattle.mspec.specs.Node.{Text}
use Rattle.meval.specs.declared.value_list.Held.{Held}
use Rattle.meval.specs.declared.value_list.Held.TheVariants as held
use Rattle.meval.specs.declared.owner.Owner.{Owner}
use Rattle.meval.specs.declared.owner.Owner.TheVariants as owner
use Rattle.meval.specs.declared.variable_name.VariableName.{VariableName}
use Rattle.meval.specs.declared.variable_name.VariableName.TheVariants as variable_name

abbrev pub held_texts : Held → List Text
held_texts (held.One value) = value ∷ []
held_texts (held.Several values) = values.items

abbrev pub owner_text : Owner → Text
owner_text (owner.Account name) = name
owner_text (owner.Other text) = text

abbrev pub name_view : VariableName → Text
name_view (variable_name.Lent name) = name.now
name_view (variable_name.Own name) = name
