-- A TRACE WRITTEN FROM EVENTS AND READ BACK SAYS THE SAME EVENTS, for the events that a trace can hold; and every trace that can be played says such events. Assumes nothing.
use Rattle.octets.proofs.Kit.{ℕ, zero, suc, ◌+◌, ◌*◌, ◌^◌, ◌/◌, ◌%◌, ◌≤◌, ◌<◌, ◌≡◌, refl, sym, ◌∙◌, ap, ap₂, subst, Bool, true, false, List, [], ◌∷◌, ◌++◌, append_assoc, eqb, length, take}
use Rattle.octets.proofs.Kit.{drop, length-append, length-take, length-drop, take_at, drop_at, drop-drop, get_or-drop, ℕ_discrete, add-zero, add-one, arith, eq-eqb, ne_eqb}
use Rattle.octets.{specs.Bytes.{num_at, bytes_of}, proofs.Numbers.{num_back, num_below, length_bytes}}
use Rattle.sheet.{specs.{Demand.{breach, Met}, First.first, Layout.◌of◌}, proofs.rules.{Demands.unbroken, First.{first_none, first_more}}}
use Rattle.device.specs.Octets.{Octets}
use Rattle.events.specs.Events.{Event, connect, disconnect, button, request, restore}
use Rattle.playback.specs.Trace.{count, place, blank, entry_of, event_by, event_in, event_at, events_from, trace_of}
use Rattle.playback.specs.Rules.{reached, head_demands, event_demands, end_demands, head_rule, event_rule, walk_rule, refusal_of, Playable}
use Rattle.playback.specs.Written.{bytes_in, apdu, numbers_of, entries_for, apdus_of, written, CanSay, CanSayAll, CanHold}
use Rattle.playback.specs.Entry as entry
use Rattle.playback.proofs.{Walking.{good_rows, good_event}, Running.length_events}

-- an entry's numbers
record Fields (x : List ℕ) (k b g z l : ℕ) : Type 0 where
  kind : entry.kind of x ≡ k
  mode : entry.mode of x ≡ b
  group : entry.group of x ≡ g
  offset : entry.offset of x ≡ z
  long : entry.length of x ≡ l
  spare : entry.zero of x ≡ 0

fields_back : (k b g z l : ℕ) → k < 256 → b < 256 → g < 65536 → z < 65536 → l < 256 → Fields (bytes_in entry.table (k ∷ b ∷ g ∷ z ∷ l ∷ 0 ∷ [])) k b g z l
unfolding bytes_in bytes_of num_at
fields_back k b g z l hk hb hg hz hl =
    record { kind = omega arith; mode = omega arith; group = omega arith; offset = omega arith; long = omega arith; spare = refl }

says : (t x : List ℕ) (k b g z l : ℕ) → Fields x k b g z l → event_in t x ≡ event_by k (b % 16) (b / 16) g (take l (drop z t))
unfolding event_in
says t x k b g z l f = rw (f.kind, f.mode, f.group, f.offset, f.long)

-- an entry keeps the rules of an event
keeps : (x : List ℕ) (k b g z l n : ℕ) → Fields x k b g z l → k ≤ 4 → (k ≡ 0 → ⊥) → l ≡ 0 → z ≤ n → Met (event_demands z n x)
keeps x k b g z l n f h o e w =
    (omega (arith, f.kind), (rw (ne_eqb (entry.kind of x) 0 (λ y. o (sym f.kind ∙ y))) (f.long ∙ e), (f.spare, (f.offset, (omega (arith, f.long), tt)))))

keeps_request : (x : List ℕ) (b g z l n : ℕ) → Fields x 0 b g z l → z + l ≤ n → Met (event_demands z n x)
keeps_request x b g z l n f w =
    (omega (arith, f.kind), (rw (eq-eqb (entry.kind of x) 0 f.kind) refl, (f.spare, (f.offset, (omega (arith, f.long), tt)))))

-- the entry of an event takes eight bytes
eight : (z : ℕ) (e : Event) → length (bytes_in entry.table (numbers_of z e)) ≡ entry.size
unfolding bytes_in bytes_of
eight z (connect c) = refl
eight z (disconnect c) = refl
eight z (button true) = refl
eight z (button false) = refl
eight z (request mode c group a out) = refl
eight z (restore c n st) = refl

-- which say it, and keep the rules, if it is one that an entry can say
record Said (t : List ℕ) (z : ℕ) (e : Event) (x : List ℕ) : Type 0 where
  is : event_in t x ≡ e
  rules : Met (event_demands z (length t) x)
  long : entry.length of x ≡ length (apdu e)

module _ (t : List ℕ) (z : ℕ) (small : z < 65536) where
  silent : (e : Event) (k b : ℕ) → 0 < k → k ≤ 4 → b < 256 → z ≤ length t → event_by k (b % 16) (b / 16) 0 [] ≡ e → length (apdu e) ≡ 0
      → Said t z e (bytes_in entry.table (k ∷ b ∷ 0 ∷ z ∷ 0 ∷ 0 ∷ []))
  silent e k b h m n w i l =
      let f = fields_back k b 0 z 0 (omega arith) n (omega arith) small (omega arith) in
      record { is = says t _ _ _ _ _ _ f ∙ i; rules = keeps _ _ _ _ _ _ _ f m (λ y. omega arith) refl w; long = f.long ∙ sym l }

  said : (e : Event) → CanSay e → z + length (apdu e) ≤ length t → take (length (apdu e)) (drop z t) ≡ apdu e
      → Said t z e (bytes_in entry.table (numbers_of z e))
  said (connect c) h w a = silent (connect c) 1 (c * 16) (omega arith) (omega arith) (omega arith) (omega arith) (ap connect (omega arith)) refl
  said (disconnect c) h w a = silent (disconnect c) 2 (c * 16) (omega arith) (omega arith) (omega arith) (omega arith) (ap disconnect (omega arith)) refl
  said (button true) h w a = silent (button true) 3 0 (omega arith) (omega arith) (omega arith) (omega arith) refl refl
  said (button false) h w a = silent (button false) 4 0 (omega arith) (omega arith) (omega arith) (omega arith) refl refl
  said (restore c n st) h w e = absurd h
  said (request mode c group a out) h w e =
      let f = fields_back 0 (c * 16 + mode) group z (length a) (omega arith) (omega (arith, h.0, h.1)) h.2 small h.3 in
      let m : (c * 16 + mode) % 16 ≡ mode = omega (arith, h.0) in
      let n : (c * 16 + mode) / 16 ≡ c = omega (arith, h.0) in
      record {
        is =
            says t _ _ _ _ _ _ f
            ∙ ap₂ (λ (i j : ℕ). request i j group (take (length a) (drop z t)) blank) m n
            ∙ ap₂ (λ (x y : List ℕ). request mode c group x y) e (sym h.4);
        rules = keeps_request _ _ _ _ _ _ f w;
        long = f.long;
      }

-- WHAT IS LEFT TO READ: from entry i on the entries of es, whose APDUs stand from z to the trace's end
record Left (t : List ℕ) (i z : ℕ) (es : List Event) (back : List ℕ) : Type 0 where
  table : drop (place i) t ≡ entries_for z es ++ back
  apdus : drop z t ≡ apdus_of es
  whole : z + length (apdus_of es) ≡ length t
  can : CanSayAll z es

module _ (t : List ℕ) (i z : ℕ) (e : Event) (es : List Event) (back : List ℕ) (l : Left t i z (e ∷ es) back) where
  abbrev a : List ℕ
  a = apdu e

  abbrev x : List ℕ
  x = bytes_in entry.table (numbers_of z e)

  table_is : drop (place i) t ≡ x ++ (entries_for (z + length a) es ++ back)
  unfolding entries_for
  table_is = l.table ∙ append_assoc x (entries_for (z + length a) es) back

  apdus_are : drop z t ≡ a ++ apdus_of es
  unfolding apdus_of
  apdus_are = l.apdus

  within : z + length a + length (apdus_of es) ≡ length t
  unfolding apdus_of
  within = omega (arith, l.whole, length-append a (apdus_of es))

  here : Said t z e x
  here =
      said t z l.can.0 e l.can.1 (omega (arith, within))
      (ap (take (length a)) apdus_are ∙ take_at a (apdus_of es) (length a) refl)

  entry_is : entry_of t i ≡ x
  unfolding entry_of
  entry_is = ap (take 8) table_is ∙ take_at x (entries_for (z + length a) es ++ back) 8 (eight z e)

  event_is : event_at t i ≡ e
  event_is = ap (event_in t) entry_is ∙ here.is

  goes_on : Left t (i + 1) (z + length a) es back
  goes_on =
      let k : place (i + 1) ≡ place i + 8 = omega arith in
      record {
        table = ap (λ (j : ℕ). drop j t) k ∙ sym (drop-drop 8 (place i) t) ∙ ap (drop 8) table_is ∙ drop_at x (entries_for (z + length a) es ++ back) 8 (eight z e);
        apdus = sym (drop-drop (length a) z t) ∙ ap (drop (length a)) apdus_are ∙ drop_at a (apdus_of es) (length a) refl;
        whole = within;
        can = l.can.2;
      }

  module _ (r : reached t i ≡ z) where
    reaches : reached t (i + 1) ≡ z + length a
    unfolding reached
    reaches =
        rw (add-one i)
        (ap₂ (λ (k : ℕ) (y : List ℕ). k + entry.length of y) r entry_is ∙ ap (λ (k : ℕ). z + k) here.long)

    clean : event_rule t i ≡ 0
    unfolding event_rule
    clean =
        ap₂ (λ (k : ℕ) (y : List ℕ). breach (event_demands k (length t) y)) r entry_is
        ∙ unbroken (event_demands z (length t) x) here.rules

all_said : (es : List Event) (t : List ℕ) (i z : ℕ) (back : List ℕ) → Left t i z es back → events_from t i (length es) ≡ es
unfolding events_from
all_said [] t i z back l = refl
all_said (e ∷ es) t i z back l =
    ap₂ (λ (y : Event) (ys : List Event). y ∷ ys) (event_is t i z e es back l) (all_said es t (i + 1) (z + length (apdu e)) back (goes_on t i z e es back l))

all_clean :
    (es : List Event) (t : List ℕ) (i z : ℕ) (back : List ℕ) → Left t i z es back → reached t i ≡ z → first (event_rule t) i ≡ 0 →
    (first (event_rule t) (i + length es) ≡ 0) × (reached t (i + length es) ≡ length t)
unfolding apdus_of
all_clean [] t i z back l r f =
    let k : i + 0 ≡ i = add-zero i in
    let w : z ≡ length t = omega (arith, l.whole) in
    (ap (first (event_rule t)) k ∙ f, ap (reached t) k ∙ r ∙ w)
all_clean (e ∷ es) t i z back l r f =
    let k : i + length (e ∷ es) ≡ i + 1 + length es = omega arith in
    let h =
    all_clean es t (i + 1) (z + length (apdu e)) back (goes_on t i z e es back l) (reaches t i z e es back l r)
    (first_more (event_rule t) i f (clean t i z e es back l r))
    in
    (ap (first (event_rule t)) k ∙ h.0, ap (reached t) k ∙ h.1)

length_entries : (es : List Event) (z : ℕ) → length (entries_for z es) ≡ entry.size * length es
unfolding entries_for
length_entries [] z = refl
length_entries (e ∷ es) z =
    length-append (bytes_in entry.table (numbers_of z e)) (entries_for (z + length (apdu e)) es)
    ∙ omega (arith, eight z e, length_entries es (z + length (apdu e)))

-- THE WRITTEN TRACE
module _ (es : List Event) (h : CanHold es) where
  abbrev n : ℕ
  n = length es

  abbrev number : List ℕ
  number = bytes_of 2 n

  abbrev table : List ℕ
  table = entries_for (place n) es

  counts : count (written es) ≡ n
  unfolding written
  counts = num_back 2 n [] (table ++ apdus_of es) (omega (arith, h.few))

  in_front : length (number ++ table) ≡ place n
  in_front = length-append number table ∙ omega (arith, length_bytes 2 n, length_entries es (place n))

  whole : place n + length (apdus_of es) ≡ length (written es)
  unfolding written
  whole = sym (ap length (sym (append_assoc number table (apdus_of es))) ∙ length-append (number ++ table) (apdus_of es) ∙ omega (arith, in_front))

  begins : Left (written es) 0 (place n) es (apdus_of es)
  unfolding written
  begins =
      record {
        table = drop_at number (table ++ apdus_of es) 2 (length_bytes 2 n);
        apdus = ap (drop (place n)) (sym (append_assoc number table (apdus_of es))) ∙ drop_at (number ++ table) (apdus_of es) (place n) in_front;
        whole = whole;
        can = h.each;
      }

  heads : Met (head_demands (written es))
  heads = (omega (arith, whole), (omega (arith, counts, h.few), (omega (arith, counts, whole), tt)))

  walked : (first (event_rule (written es)) n ≡ 0) × (reached (written es) n ≡ length (written es))
  unfolding reached
  walked =
      let k : 0 + n ≡ n = omega arith in
      let w = all_clean es (written es) 0 (place n) (apdus_of es) begins (ap place counts) (first_none (event_rule (written es))) in
      (ap (first (event_rule (written es))) (sym k) ∙ w.0, ap (reached (written es)) (sym k) ∙ w.1)

  playable : Playable (written es)
  unfolding refusal_of head_rule walk_rule
  playable =
      let f : first (event_rule (written es)) (count (written es)) ≡ 0 = ap (first (event_rule (written es))) counts ∙ walked.0 in
      rw (unbroken (head_demands (written es)) heads, f)
      (unbroken (end_demands (written es)) (ap (reached (written es)) counts ∙ walked.1, tt))

  -- A TRACE WRITTEN FROM EVENTS IS ACCEPTED, AND SAYS THEM
  pub trace_back : Playable (written es) × (trace_of (written es) ≡ es)
  unfolding trace_of
  trace_back = (
    playable,
    ap (events_from (written es) 0) counts ∙ all_said es (written es) 0 (place n) (apdus_of es) begins,
  )

-- THE OTHER WAY ROUND: of an event by its kind
pub by_kind_lem :
    (P : Event → Type 0) (k mode c group : ℕ) (a : List ℕ) → (k ≡ 0 → P (request mode c group a blank)) → ((k ≡ 0 → ⊥) → P (connect c)) →
    ((k ≡ 0 → ⊥) → P (disconnect c)) → ((k ≡ 0 → ⊥) → (on : Bool) → P (button on)) → P (event_by k mode c group a)
by_kind_lem P k mode c group a p q r s = go (ℕ_discrete k 0) (ℕ_discrete k 1) (ℕ_discrete k 2)
  where
    go : Dec (k ≡ 0) → Dec (k ≡ 1) → Dec (k ≡ 2) → P (event_by k mode c group a)
    go (yes e) f g = rw (eq-eqb k 0 e) (p e)
    go (no e) (yes f) g = rw (ne_eqb k 0 e, eq-eqb k 1 f) (q e)
    go (no e) (no f) (yes g) = rw (ne_eqb k 0 e, ne_eqb k 1 f, eq-eqb k 2 g) (r e)
    go (no e) (no f) (no g) = rw (ne_eqb k 0 e, ne_eqb k 1 f, ne_eqb k 2 g) (s e (eqb k 3))

octets_take : (n : ℕ) (s : List ℕ) → Octets s → Octets (take n s)
octets_take zero s h i = omega arith
octets_take (suc n) [] h i = omega arith
octets_take (suc n) (y ∷ s) h zero = h 0
octets_take (suc n) (y ∷ s) h (suc i) = octets_take n s (λ j. h (suc j)) i

octets_drop : (n : ℕ) (s : List ℕ) → Octets s → Octets (drop n s)
octets_drop n s h i = rw (get_or-drop n s i 0) (h (n + i))

pub octets_part : (t : List ℕ) (n o : ℕ) → Octets t → Octets (take n (drop o t))
octets_part t n o h = octets_take n (drop o t) (octets_drop o t h)

module _ (t : List ℕ) (g : Playable t) (octets : Octets t) where
  module _ (i : ℕ) (b : i < count t) where
    abbrev e : List ℕ
    e = entry_of t i

    below : (at w : ℕ) → num_at e at w < 256 ^ w
    unfolding entry_of
    below at w = num_below e at w (octets_part t entry.size (place i) octets)

    m : Met (event_demands (reached t i) (length t) e)
    m = good_event t g i b

    none : (entry.kind of e ≡ 0 → ⊥) → 0 ≡ entry.length of e
    none k = sym (rw (ne_eqb (entry.kind of e) 0 k) at m.1.0)

    can_say : CanSay (event_at t i) × (length (apdu (event_at t i)) ≡ entry.length of e)
    unfolding event_in
    can_say =
        let by : entry.mode of e < 256 = below 1 1 in
        let gr : entry.group of e < 65536 = below 2 2 in
        let le : entry.length of e < 256 = below 6 1 in
        let c : entry.mode of e / 16 < 16 = omega (arith, by) in
        let a : length (take (entry.length of e) (drop (entry.offset of e) t)) ≡ entry.length of e =
        simp (length-take, length-drop) (omega (arith, m.1.1.1.0, m.1.1.1.1.0))
        in
        by_kind_lem (λ y. CanSay y × (length (apdu y) ≡ entry.length of e)) (entry.kind of e) (entry.mode of e % 16) (entry.mode of e / 16) (entry.group of e)
        (take (entry.length of e) (drop (entry.offset of e) t))
        (λ k. ((omega arith, c, gr, omega (arith, a, le), refl), a))
        (λ k. (c, none k))
        (λ k. (c, none k))
        (λ k on. (tt, none k))

    low : reached t i < 65536
    low = let o : entry.offset of e < 65536 = below 4 2 in omega (arith, o, m.1.1.1.0)

    further : reached t (i + 1) ≡ reached t i + length (apdu (event_at t i))
    unfolding reached
    further = rw (add-one i) (ap (λ (k : ℕ). reached t i + k) (sym can_say.1))

  can_all : (n i : ℕ) → i + n ≡ count t → CanSayAll (reached t i) (events_from t i n)
  unfolding events_from
  can_all zero i q = tt
  can_all (suc n) i q =
      let b : i < count t = omega arith in
      (low i b, (can_say i b).0, subst (λ (z : ℕ). CanSayAll z (events_from t (i + 1) n)) (further i b) (can_all n (i + 1) (omega arith)))

  -- EVERY TRACE THAT CAN BE PLAYED SAYS EVENTS THAT A TRACE CAN HOLD
  pub can_hold : CanHold (trace_of t)
  unfolding trace_of reached
  can_hold =
      let n : length (events_from t 0 (count t)) ≡ count t = length_events t 0 (count t) in
      record {
        few = omega (arith, n, (good_rows t g).1.0);
        each = subst (λ (k : ℕ). CanSayAll (place k) (events_from t 0 (count t))) (sym n) (can_all (count t) 0 (omega arith));
      }

  -- so a trace written again from what one says is accepted, and says the same
  pub said_again : Playable (written (trace_of t)) × (trace_of (written (trace_of t)) ≡ trace_of t)
  said_again = trace_back (trace_of t) can_hold
