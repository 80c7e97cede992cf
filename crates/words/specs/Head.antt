-- docs/POOL.md, "Words"
-- The head word of a list, 64 bits: the low 32 hold the item's number plus one, 0 for an empty list; the high
-- 32 hold a tag. An `item` below is such a number plus one, or 0.
use Rattle.std.specs.Prelude.{ℕ, ◌+◌, ◌-◌, ◌*◌, ◌/◌, ◌%◌, cond, ◌==◌}
use Rattle.limits.specs.Limits.{TAGS}
use Rattle.words.specs.declared.head.Head.{Head}
use Rattle.std.specs.declared.option.Option.{Option}
use Rattle.std.specs.declared.option.Option.TheVariants.{None, Some}

-- ---- on numbers

-- what 1 in the tag adds to the word: "the low 32 hold the item's number plus one", which is below this
abbrev pub TAG_WEIGHT : ℕ
TAG_WEIGHT = 4294967296

-- the low 32 bits hold the item's number plus one
abbrev pub item_of : ℕ → ℕ
item_of w = w % TAG_WEIGHT

-- the high 32 hold the tag
abbrev pub tag_of : ℕ → ℕ
tag_of w = w / TAG_WEIGHT

-- the word of an item's number plus one and a tag
abbrev pub word : ℕ → ℕ → ℕ
word item tag = item + tag * TAG_WEIGHT

-- each won exchange adds one to the tag, and after 4,294,967,295 comes 0
abbrev pub next_tag : ℕ → ℕ
next_tag tag = (tag + 1) % TAGS

-- the word after a won exchange of `w` that leaves `item` on top
abbrev pub advanced_word : ℕ → ℕ → ℕ
advanced_word w item = word item (next_tag (tag_of w))

-- ---- on heads

-- a head word is read by value
abbrev pub head_of : ℕ → Head
head_of w = record { item = item_of w; tag = tag_of w }

-- a head is written as its word
abbrev pub word_of : Head → ℕ
word_of h = word h.item h.tag

-- at a start a list is empty and its tag is 0
abbrev pub empty_head : Head
empty_head = record { item = 0; tag = 0 }

-- 0 is an empty list; anything else is the number of the item on top plus one
abbrev pub top_of : Head → Option ℕ
top_of h = cond (h.item == 0) None (Some (h.item - 1))

-- the head after a won exchange that leaves `item` on top
abbrev pub advanced : Head → ℕ → Head
advanced h item = record { item = item; tag = next_tag h.tag }
