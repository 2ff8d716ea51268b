-- WHAT IS KNOWN OF NUMBERS, in pages and in groups of pages.
use Rattle.std.specs.Prelude.{◌≡◌, ℕ, ◌+◌, ◌-◌, ◌<◌, ◌≤◌, ◌/◌, ◌%◌, ◌⊎◌, nat_lt, Bool, true, false, List, [], length, count_by, get_or, Option, Some, None, if◌then◌else◌}
use Rattle.cc_holders.specs.declared.entry.Entry.{Entry}
use Rattle.cc_holders.specs.declared.entry.Entry.TheVariants.{Unknown, Known}

abbrev pub is_known : Entry → Bool
is_known Unknown = false
is_known (Known count key) = true

-- a number is marked as long as its count is above zero
abbrev pub is_marked : Entry → Bool
is_marked Unknown = false
is_marked (Known count key) = nat_lt 0 count

-- the key of a number that is marked
abbrev pub key_of : Entry → Option ℕ
key_of Unknown = None
key_of (Known count key) = if nat_lt 0 count then Some key else None

abbrev pub count_of : Entry → ℕ
count_of Unknown = 0
count_of (Known count key) = count

-- the same with a count greater or less by one
abbrev pub one_more : Entry → Entry
one_more Unknown = Unknown
one_more (Known count key) = Known (count + 1) key

abbrev pub one_less : Entry → Entry
one_less Unknown = Unknown
one_less (Known count key) = Known (count - 1) key

abbrev pub one_if : Bool → ℕ
one_if b = if b then 1 else 0

-- A PAGE

-- what is known of the number at a place of a page; nothing past the end
abbrev pub in_page : List Entry → ℕ → Entry
in_page es i = get_or es i Unknown

-- of no number of the page is anything known
abbrev pub AreUnknown : List Entry → Type 0
AreUnknown es = (i : ℕ) → in_page es i ≡ Unknown

-- some number of it is marked
abbrev pub has_marked : List Entry → Bool
has_marked es = nat_lt 0 (count_by is_marked es)

-- a page has no place or all of them, and so many of its numbers are known and marked
pub record IsCounted (es : List Entry) (known marked : ℕ) : Type 0 where
  pub whole : (es ≡ []) ⊎ (length es ≡ 32)
  pub known_in : known ≡ count_by is_known es
  pub marked_in : marked ≡ count_by is_marked es

-- A GROUP

-- and by the place of the page in a group
abbrev pub in_group : List (List Entry) → ℕ → ℕ → Entry
in_group ps k i = in_page (get_or ps k []) i

-- and by the number of the page
abbrev pub in_page_of : List (List (List Entry)) → ℕ → ℕ → Entry
in_page_of gs q i = in_group (get_or gs (q / 128) []) (q % 128) i

-- and of a number, whose page is that of 32 numbers
abbrev pub in_groups : List (List (List Entry)) → ℕ → Entry
in_groups gs n = in_page_of gs (n / 32) (n % 32)

-- the page of a number
abbrev pub page_in : List (List (List Entry)) → ℕ → List Entry
page_in gs n = get_or (get_or gs (n / 32 / 128) []) (n / 32 % 128) []

-- it is there, with a place for the number
pub record HasRoom (gs : List (List (List Entry))) (n : ℕ) : Type 0 where
  pub group : n / 32 / 128 < length gs
  pub page : n / 32 % 128 < length (get_or gs (n / 32 / 128) [])
  pub place : n % 32 < length (page_in gs n)

-- a page of which nothing is known was given back
abbrev pub IsGivenBack : List Entry → Type 0
IsGivenBack es = AreUnknown es → es ≡ []

-- the number behind one; the first of all where there is none
abbrev pub behind : Option ℕ → ℕ
behind None = 0
behind (Some k) = k + 1

-- the first number, from one on, that has a key, and its key
pub record IsFirst (key_at : ℕ → Option ℕ) (start n key : ℕ) : Type 0 where
  pub from : start ≤ n
  pub there : key_at n ≡ Some key
  pub before : (j : ℕ) → start ≤ j → j < n → key_at j ≡ None
