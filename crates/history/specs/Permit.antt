-- Which requests are heard, which writes are allowed, which bytes they name, and what they give to each.
use Rattle.std.specs.Prelude.{ℕ, zero, suc, ◌+◌, ◌*◌, ◌-◌, ◌/◌, ◌%◌, max, List, [], ◌∷◌, ◌++◌, Bool, false, cond, ◌&&◌, ◌||◌, not, length, get_or, ltb, leb, eqb}
use Rattle.std.specs.Int.Bits.{bit_and, bit_xor}
use Rattle.octets.specs.Bytes.{num_at, bytes_of}
use Rattle.octets.specs.Every.{every}
use Rattle.sheet.specs.Kind.{properties, kind_of}
use Rattle.sheet.specs.Layout.{◌of◌}
use Rattle.sheet.specs.Head as head
use Rattle.sheet.specs.Region as region
use Rattle.sheet.specs.Property as property
use Rattle.sheet.specs.Entries.{count, entry, length_of}
use Rattle.sheet.specs.Lookup.{seek, covers, index_of}
use Rattle.sheet.specs.Places.{region_at}
use Rattle.sheet.specs.declared.Memory.{Memory}
use Rattle.sheet.specs.declared.Memory.TheVariants.{Device, User}
use Rattle.versions.specs.Settings.{in_version}
use Rattle.versions.specs.Settings.{body_in_version}
use Rattle.versions.specs.Restoring.{same_entries, low_counts}
use Rattle.history.specs.Location.{Location, memory, body, counter, key}
use Rattle.history.specs.Span.{all, Span, span}
use Rattle.history.specs.Wish.{Wish, change, write_memory, write_bits, write_property, write_key, restore_all, offer_key, restart, other, nothing, taken}

-- THE CHECKS BEFORE THE RIGHTS: buffer, length, mode, connected only while open, the service in this mode.
-- That the service is known and its length right is that the APDU reads.
abbrev pub checks : ℕ → Bool → ℕ → List ℕ → List ℕ → Wish → List Bool
checks rules live mode a out w =
    leb 16 (length out) ∷ leb 2 (length a) ∷ leb (length a) 16 ∷ leb mode 3 ∷ (not (eqb mode 3) || live) ∷ taken rules w mode ∷ []

unfoldable pub heard : ℕ → Bool → ℕ → List ℕ → List ℕ → Wish → Bool
heard rules live mode a out w = all (checks rules live mode a out w)

-- the level that a request has: a connected one the session's, read as 3 above 3; any other 3
unfoldable pub level_for : ℕ → ℕ → ℕ
level_for mode level = cond (eqb mode 3) (cond (ltb 3 level) 3 level) 3

-- the region of a memory that has an address, the number of its regions where none has
unfoldable pub region_for : List ℕ → Memory → ℕ → ℕ
region_for s m y = seek (λ i. covers (region_at s m i) y) 0 (count s (kind_of m))

-- the byte at an address is there, and a level may read or write it
unfoldable pub may_read : List ℕ → Memory → ℕ → ℕ → Bool
may_read s m level y =
    let i = region_for s m y in ltb i (count s (kind_of m)) && leb level (region.levels of region_at s m i / 16)

unfoldable pub may_write : List ℕ → Memory → ℕ → ℕ → Bool
may_write s m level y =
    let i = region_for s m y in ltb i (count s (kind_of m)) && leb level (region.levels of region_at s m i % 16)

-- how many bytes a write to a memory may name
abbrev pub most_bytes : Memory → ℕ
most_bytes Device = 12
most_bytes User = 11

-- these are 1 to `most` addresses, n from a on, and a test passes for each
unfoldable pub in_range : ℕ → (ℕ → Bool) → ℕ → ℕ → Bool
in_range most may n a = all (leb 1 n ∷ leb n most ∷ every n (λ i. may (a + i)) ∷ [])

-- the entry of a property by object and id, if there is one
unfoldable pub index_for : List ℕ → ℕ → ℕ → ℕ
index_for s object id = index_of s properties (object * 256 + id)

unfoldable pub entry_for : List ℕ → ℕ → ℕ → List ℕ
entry_for s object id = entry s properties (index_for s object id)

-- element 0 is the count, and only 00 00 may be written to it
unfoldable pub clears : ℕ → ℕ → List ℕ → Bool
clears n s d = all (eqb s 0 ∷ eqb n 1 ∷ eqb (length d) 2 ∷ eqb (num_at d 0 2) 0 ∷ [])

-- elements are counted from 1
unfoldable pub fills : List ℕ → ℕ → ℕ → List ℕ → Bool
fills e n s d =
    all (leb 1 s ∷ leb 1 n ∷ leb (s + n - 1) (property.maximum of e) ∷ eqb (length d) (n * property.element of e) ∷ [])

-- EVERY OTHER CHECK PASSES, AND THE LEVEL SUFFICES FOR EVERY BYTE THAT IS NAMED
unfoldable pub allowed : List ℕ → ℕ → List ℕ → Wish → Bool
allowed s level d (change (write_memory m n a)) = in_range (most_bytes m) (may_write s m level) n a
allowed s level d (change (write_bits n a)) = in_range 5 (λ y. may_read s Device level y && may_write s Device level y) n a
allowed sheet level d (change (write_property object id n s)) =
    let e = entry_for sheet object id in
    all
    (ltb (index_for sheet object id) (count sheet properties) ∷ eqb (property.typ of e / 128) 1 ∷
    (clears n s d || fills e n s d) ∷ leb level (property.levels of e % 16) ∷ [])
allowed s level d (change (write_key named number)) = ltb named 3 && leb level named
-- d is the version: level 0 alone suffices, whatever the entries say
allowed s level d (change restore_all) = all (eqb level 0 ∷ same_entries s d ∷ low_counts s d ∷ [])
allowed s level d (offer_key number) = false
allowed s level d restart = false
allowed s level d (other o) = false
allowed s level d nothing = false

-- the count of a property by the contents of its two bytes
unfoldable pub count_in : (Location → ℕ) → ℕ → ℕ → ℕ
count_in before o i = before (counter o i 0) * 256 + before (counter o i 1)

-- its two bytes become c
abbrev pub count_to : ℕ → ℕ → ℕ → Span
count_to object id c = span (counter object id 0) (property.count).width (λ j. get_or (bytes_of 2 c) j 0)

-- a span for each number below n
unfoldable pub over : ℕ → (ℕ → Span) → List Span
over zero p = []
over (suc n) p = p n ∷ over n p

-- the count of property i of a sheet, and its body, become those of a version
abbrev pub count_from : List ℕ → List ℕ → ℕ → Span
count_from s version i =
    let e = entry s properties i in
    span (counter (property.object of e) (property.id of e) 0) (property.count).width (λ j. get_or version (in_version i ((property.count).at + j)) 0)

abbrev pub body_from : List ℕ → List ℕ → ℕ → Span
body_from s version i =
    let e = entry s properties i in
    span (body (property.object of e) (property.id of e) 0) (length_of properties e) (λ j. get_or version (body_in_version s i + j) 0)

-- THE BYTES THAT A WRITE NAMES, AND WHAT IT GIVES TO EACH, d being its data and `before` the contents before it
unfoldable pub spans : List ℕ → (Location → ℕ) → List ℕ → Wish → List Span
spans s before d (change (write_memory m n a)) = span (memory m a) n (λ j. get_or d j 0) ∷ []
spans s before d (change (write_bits n a)) =
    span (memory Device a) n (λ j. bit_xor (bit_and (before (memory Device (a + j))) (get_or d j 0)) (get_or d (n + j) 0)) ∷ []
spans sheet before d (change (write_property object id n s)) =
    let z = property.element of entry_for sheet object id in
    let c = count_in before object id in
    cond (eqb s 0) (count_to object id 0 ∷ [])
    (count_to object id (max c (s + n - 1)) ∷
    span (body object id ((s - 1) * z)) (n * z) (λ j. get_or d j 0) ∷
    -- the elements that are jumped: zeros, whatever stood there
    span (body object id (c * z)) ((s - 1 - c) * z) (λ j. 0) ∷ [])
spans s before d (change (write_key named number)) = span (key named 0) (head.key named).width (λ j. get_or (bytes_of 4 number) j 0) ∷ []
-- every byte of every property
spans s before d (change restore_all) = over (count s properties) (count_from s d) ++ over (count s properties) (body_from s d)
spans s before d (offer_key number) = []
spans s before d restart = []
spans s before d (other o) = []
spans s before d nothing = []
