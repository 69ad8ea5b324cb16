-- WHAT A VERSION HOLDS OF A SHEET: it can be given back to that sheet, and nothing else of the sheet is in it.
use Rattle.octets.proofs.Kit.{ℕ, ◌+◌, ◌-◌, ◌*◌, ◌≤◌, ◌<◌, ◌≡◌, sym, ap, ap₂, ◌∙◌, List, [], ◌++◌, arith, length, get_or, take, drop, length-append, length-drop, List·getD-append, get_or-take}
use Rattle.octets.proofs.Kit.{get_or-drop, length-take-le, get_or-append-add, ext_get_or}
use Rattle.octets.{specs.Bytes.{num_at, bytes_of}, proofs.Numbers.{length_bytes, num_back, num_same}}
use Rattle.sheet.{specs.{Kind.{regions, properties, groups, users}, Agree.Agree, Entries.{base, place, start_of}, Rules.Accepted, Stores.count_at}, proofs.rules.Good.{Good, good}}
use Rattle.sheet.proofs.{places.BodyPlaces.{start_first, start_up}, alike.{Sames.{count_same, start_same}, Sparing.count_stood}, promises.Agrees.both_or_neither}
use Rattle.sheet.specs.Property as property
use Rattle.versions.specs.Settings.{front, many, entries_long, bodies_long, settings_of, in_version, SameEntries, LowCounts, SameProperties}

module _ (s : List ℕ) (ok : Accepted s) where
  g : Good s
  g = good s ok

  abbrev first : List ℕ
  first = bytes_of front (many s)

  abbrev table : List ℕ
  table = take (entries_long s) (drop (base s properties) s)

  abbrev rest : List ℕ
  rest = take (bodies_long s) (drop (start_of s properties) s)

  up₁ : start_of s properties ≤ start_of s groups
  up₁ = start_up g properties (omega arith)

  far : start_of s groups ≤ length s
  far = omega (arith, start_up g groups (omega arith), start_up g users (omega arith), g.last)

  near : base s properties + entries_long s ≤ start_of s properties
  near = omega (arith, start_first s, start_up g regions (omega arith))

  table_long : length table ≡ entries_long s
  table_long = length-take-le (entries_long s) (drop (base s properties) s) (simp length-drop (omega (arith, near, up₁, far)))

  rest_long : length rest ≡ bodies_long s
  rest_long = length-take-le (bodies_long s) (drop (start_of s properties) s) (simp length-drop (omega (arith, up₁, far)))

  -- a byte of the entries, in the version
  byte : (j : ℕ) → j < entries_long s → get_or (settings_of s) (front + j) 0 ≡ get_or s (base s properties + j) 0
  unfolding settings_of
  byte j h =
      ap (λ (k : ℕ). get_or (first ++ (table ++ rest)) (k + j) 0) (sym (length_bytes front (many s)))
      ∙ get_or-append-add first (table ++ rest) j 0
      ∙ List·getD-append table rest 0 j (rw table_long h)
      ∙ get_or-take (entries_long s) (drop (base s properties) s) j 0 h
      ∙ get_or-drop (base s properties) s j 0

  -- and one of the bodies
  body_byte_lem : (j : ℕ) → j < bodies_long s → get_or (settings_of s) (front + entries_long s + j) 0 ≡ get_or s (start_of s properties + j) 0
  unfolding settings_of
  body_byte_lem j h =
      let e : front + entries_long s + j ≡ length first + (length table + j) = omega (arith, length_bytes front (many s), table_long) in
      ap (λ (k : ℕ). get_or (first ++ (table ++ rest)) k 0) e
      ∙ get_or-append-add first (table ++ rest) (length table + j) 0
      ∙ get_or-append-add table rest j 0
      ∙ get_or-take (bodies_long s) (drop (start_of s properties) s) j 0 h
      ∙ get_or-drop (start_of s properties) s j 0

  -- A BODY TAKES TWO BYTES MORE than the entries and bodies of the properties
  pub own_long : length (settings_of s) ≡ 2 + entries_long s + bodies_long s
  unfolding settings_of
  own_long = length-append first (table ++ rest) ∙ omega (arith, length_bytes front (many s), length-append table rest, table_long, rest_long)

  own_number : num_at (settings_of s) 0 front ≡ many s
  unfolding settings_of
  own_number = num_back front (many s) [] (table ++ rest) (omega (arith, g.framed))

  pub own_entries : SameEntries s (settings_of s)
  own_entries =
      record {
        long = own_long;
        number = own_number;
        entries = λ i j hi hj f.
            let u : in_version i j ≡ front + (property.size * i + j) = omega arith in
            let v : base s properties + (property.size * i + j) ≡ place s properties i + j = omega arith in
            ap (λ (o : ℕ). get_or (settings_of s) o 0) u ∙ byte (property.size * i + j) (omega arith) ∙ ap (λ (o : ℕ). get_or s o 0) v;
      }

  pub own_counts : LowCounts s (settings_of s)
  own_counts =
      record {
        low = λ i hi.
            let e : num_at (settings_of s) (in_version i (property.count).at) 2 ≡ num_at s (count_at s i) 2 =
            num_same (settings_of s) s (in_version i (property.count).at) (count_at s i) 2
            (λ j l.
            let u : in_version i (property.count).at + j ≡ front + (property.size * i + ((property.count).at + j)) = omega arith in
            let v : base s properties + (property.size * i + ((property.count).at + j)) ≡ count_at s i + j = omega arith in
            ap (λ (o : ℕ). get_or (settings_of s) o 0) u ∙ byte (property.size * i + ((property.count).at + j)) (omega arith) ∙ ap (λ (o : ℕ). get_or s o 0) v)
            in
            rw e (count_stood g i hi);
      }

-- the same bytes from the same place on
same_run :
    (s t : List ℕ) (o n : ℕ) → length t ≡ length s → o + n ≤ length s → ((j : ℕ) → j < n → get_or t (o + j) 0 ≡ get_or s (o + j) 0) →
    take n (drop o t) ≡ take n (drop o s)
same_run s t o n e h f =
    let l : length (take n (drop o s)) ≡ n = length-take-le n (drop o s) (simp length-drop (omega arith)) in
    let m : length (take n (drop o t)) ≡ n = length-take-le n (drop o t) (simp length-drop (omega arith)) in
    ext_get_or 0 _ _ (m ∙ sym l)
    (λ j k.
    let i : j < n = omega (arith, m) in
    get_or-take n (drop o t) j 0 i ∙ get_or-drop o t j 0 ∙ f j i ∙ sym (get_or-take n (drop o s) j 0 i ∙ get_or-drop o s j 0))

-- SETTINGS ONLY: sheets that have the same properties are saved as the same version, whatever their keys, memory, addresses and group values are
pub settings_only : (s t : List ℕ) → Accepted s → SameProperties s t → settings_of t ≡ settings_of s
unfolding settings_of
settings_only s t ok h =
    let m : many t ≡ many s = count_same h.agree properties in
    let long : entries_long t ≡ entries_long s = omega (arith, m) in
    let at : base t properties ≡ base s properties = omega (arith, count_same h.agree regions) in
    let from : start_of t properties ≡ start_of s properties = start_same h.agree properties (omega arith) in
    let b : bodies_long t ≡ bodies_long s = ap₂ (λ (x y : ℕ). x - y) (start_same h.agree groups (omega arith)) from in
    ap₂ ◌++◌ (ap (bytes_of front) m)
    (ap₂ ◌++◌
    (ap₂ (λ (x y : ℕ). take x (drop y t)) long at ∙ same_run s t (base s properties) (entries_long s) h.agree.long (omega (arith, near s ok, up₁ s ok, far s ok)) h.entries)
    (ap₂ (λ (x y : ℕ). take x (drop y t)) b from ∙ same_run s t (start_of s properties) (bodies_long s) h.agree.long (omega (arith, up₁ s ok, far s ok)) h.bodies))

-- AND THE OTHER WAY ROUND: sheets that agree and are saved as the same version have the same properties
pub settings_same : (s t : List ℕ) → Accepted s → Agree s t → settings_of t ≡ settings_of s → SameProperties s t
settings_same s t ok a e =
    let ok' : Accepted t = (both_or_neither a).0 ok in
    let m : many t ≡ many s = count_same a properties in
    let long : entries_long t ≡ entries_long s = omega (arith, m) in
    let at : base t properties ≡ base s properties = omega (arith, count_same a regions) in
    let from : start_of t properties ≡ start_of s properties = start_same a properties (omega arith) in
    let b : bodies_long t ≡ bodies_long s = ap₂ (λ (x y : ℕ). x - y) (start_same a groups (omega arith)) from in
    record {
      agree = a;
      entries = λ j h.
          ap (λ (k : ℕ). get_or t (k + j) 0) (sym at)
          ∙ sym (byte t ok' j (omega (arith, long)))
          ∙ ap (λ (l : List ℕ). get_or l (front + j) 0) e
          ∙ byte s ok j h;
      bodies = λ j h.
          ap (λ (k : ℕ). get_or t (k + j) 0) (sym from)
          ∙ sym (body_byte_lem t ok' j (omega (arith, b)))
          ∙ ap (λ (k : ℕ). get_or (settings_of t) (front + k + j) 0) long
          ∙ ap (λ (l : List ℕ). get_or l (front + entries_long s + j) 0) e
          ∙ body_byte_lem s ok j h;
    }
