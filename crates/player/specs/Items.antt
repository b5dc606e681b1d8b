-- The items that values of the code stand for. Assumes nothing: these are definitions.
use Rattle.std.specs.Prelude.{vec_items}
use Rattle.pages.specs.Run.{Item, loses, power, power_stops, stops, whole}
use Rattle.player.specs.Held.{left_number}
use Rattle.player.specs.declared.script.Item.{Item as CodeItem}
use Rattle.player.specs.declared.script.Item.TheVariants.{Loses, Power, PowerStops, Stops, Whole}

abbrev pub item_of : CodeItem → Item
item_of Power = power
item_of (PowerStops n c) = power_stops n (left_number c)
item_of (Whole t) = whole (vec_items t)
item_of (Stops t n c) = stops (vec_items t) n (left_number c)
item_of (Loses k) = loses k
