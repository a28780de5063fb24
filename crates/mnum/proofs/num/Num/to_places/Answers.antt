-- SPDX-License-Identifier: Apache-2.0
use Rattle.mnum.proofs.NumWords.{refl}
use Rattle.mnum.proofs.Places.{kept_places, cut_places}
use Rattle.mnum.proofs.num.Num.to_places.Goals as goal

pub returns-then-places-self : goal.returns-then-places-self
returns-then-places-self c = kept_places c.args.places c.args.self.negative c.args.self.digits c.args.self.places c.if-places-self.true c.args.self.places_at_most

pub returns : goal.returns
returns c = cut_places c.args.places c.args.self.negative c.args.self.digits c.args.self.places c.args.places c.power-ten.result _ c.args.self.places_at_most refl c.if-places-self.false c.power-ten.ensures.value refl
