-- A head and its word say the same, and a won exchange adds one to the tag.
use Rattle.std.proofs.Common.{◌≡◌, ℕ, ◌+◌, ◌-◌, ◌%◌, ◌<◌, ◌≢◌, sym, refl, ap, ◌∙◌, arith, eq-eqb, ne_eqb}
use Rattle.limits.specs.Limits.{TAGS}
use Rattle.words.specs.declared.head.Head.{Head}
use Rattle.std.specs.declared.option.Option.TheVariants.{None, Some}
use Rattle.words.specs.Head.{TAG_WEIGHT, item_of, tag_of, word, next_tag, advanced_word, head_of, word_of, top_of}
use Rattle.words.specs.Head.{advanced}

-- ---- on numbers

pub item_of-word : (item tag : ℕ) → item < TAG_WEIGHT → item_of (word item tag) ≡ item
item_of-word item tag h = omega arith

pub tag_of-word : (item tag : ℕ) → item < TAG_WEIGHT → tag_of (word item tag) ≡ tag
tag_of-word item tag h = omega arith

-- every number is the word of its parts
pub word-parts : (w : ℕ) → word (item_of w) (tag_of w) ≡ w
word-parts w = omega arith

pub item_of-below : (w : ℕ) → item_of w < TAG_WEIGHT
item_of-below w = omega arith

pub tag_of-below : (w : ℕ) → w < 18446744073709551616 → tag_of w < TAGS
tag_of-below w h = omega arith

pub word_below : (item tag : ℕ) → item < TAG_WEIGHT → tag < TAGS → word item tag < 18446744073709551616
word_below item tag h l = omega arith

-- ---- tags

pub next_tag-below : (tag : ℕ) → next_tag tag < TAGS
next_tag-below tag = omega arith

-- after 4,294,967,295 comes 0
pub next_tag-last : next_tag 4294967295 ≡ 0
next_tag-last = refl

-- a tag below 4,294,967,295 becomes one more
pub next_tag-more : (tag : ℕ) → tag < 4294967295 → next_tag tag ≡ tag + 1
next_tag-more tag h = omega arith

-- the tag of n won exchanges since the start, where `n` never wraps
pub next_tag-counts : (n : ℕ) → next_tag (n % TAGS) ≡ (n + 1) % TAGS
next_tag-counts n = omega arith

-- ---- on heads

pub head-of-word : (h : Head) → h.item < TAG_WEIGHT → head_of (word_of h) ≡ h
head-of-word h l = rw (item_of-word h.item h.tag l, tag_of-word h.item h.tag l)

pub word-of-head : (w : ℕ) → word_of (head_of w) ≡ w
word-of-head = word-parts

-- two heads with equal words are equal
pub head-injective : (h k : Head) → h.item < TAG_WEIGHT → k.item < TAG_WEIGHT → word_of h ≡ word_of k → h ≡ k
head-injective h k lh lk e = sym (head-of-word h lh) ∙ ap head_of e ∙ head-of-word k lk

pub advanced-tag : (h : Head) (item : ℕ) → (advanced h item).tag ≡ (h.tag + 1) % TAGS
advanced-tag h item = refl

-- a head with the next tag is the advanced one
pub advanced-by : (h : Head) (item tag : ℕ) → tag ≡ (h.tag + 1) % TAGS
    → record { item = item; tag = tag } ≡ advanced h item
advanced-by h item tag e = rw e

pub advanced-last : (h : Head) (item : ℕ) → h.tag ≡ 4294967295 → (advanced h item).tag ≡ 0
advanced-last h item e = ap next_tag e

-- ---- the item on top

pub top-empty : (h : Head) → h.item ≡ 0 → None ≡ top_of h
top-empty h e = rw eq-eqb

pub top-item : (h : Head) → h.item ≢ 0 → Some (h.item - 1) ≡ top_of h
top-item h e = rw ne_eqb

-- ---- an advanced head as a word

pub advanced-word : (w item : ℕ) → word_of (advanced (head_of w) item) ≡ advanced_word w item
advanced-word w item = refl

-- a word that is read as a head, advanced and written again
pub advanced-through : (w item : ℕ) {h k : Head} {r : ℕ} → h ≡ head_of w → k ≡ advanced h item → r ≡ word_of k
    → r ≡ advanced_word w item
advanced-through w item p q e = e ∙ ap word_of (q ∙ ap (λ (x : Head). advanced x item) p)

pub advanced_word-below : (w item : ℕ) → item < TAG_WEIGHT → advanced_word w item < 18446744073709551616
advanced_word-below w item h = word_below item (next_tag (tag_of w)) h (next_tag-below (tag_of w))

pub item_of-advanced : (w item : ℕ) → item < TAG_WEIGHT → item_of (advanced_word w item) ≡ item
item_of-advanced w item = item_of-word item (next_tag (tag_of w))

pub tag_of-advanced : (w item : ℕ) → item < TAG_WEIGHT → tag_of (advanced_word w item) ≡ next_tag (tag_of w)
tag_of-advanced w item = tag_of-word item (next_tag (tag_of w))
