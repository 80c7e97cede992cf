-- docs/POOL.md, "Requests, steps and moves"
-- What the items of a list are: the code's words for it are those of the stepped pool.
use Rattle.stepped.specs.Lists.{Items, descriptor_items, region_items}
use Rattle.steps_lists.specs.declared.items.Items.{Items as Named}
use Rattle.steps_lists.specs.declared.items.Items.TheVariants.{Descriptors, Regions}

-- what the items are that the code names
abbrev pub kind : Named → Items
kind Descriptors = descriptor_items
kind Regions = region_items
