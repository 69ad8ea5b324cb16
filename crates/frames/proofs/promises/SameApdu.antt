-- TO THE READER OF PDUS, two APDUs that differ at most in the top six bits of the first byte are one.
use Rattle.octets.proofs.Kit.{ℕ, zero, suc, ◌+◌, ◌-◌, ◌/◌, ◌%◌, ◌^◌, ◌≤◌, ◌≡◌, refl, sym, ap, ap₂, ◌∙◌, true, cond, ◌&&◌, List, [], ◌∷◌, mod-mod_of_dvd, dvd_of_mod-eq-zero, arith, length}
use Rattle.octets.proofs.Kit.{get_or, drop, length-drop, leb, ltb, eqb, ext_get_or, get_or-drop, eqb-true}
use Rattle.std.proofs.Common.{Option, Some, None, Result, Ok, Err}
use Rattle.pdu.specs.declared.ReadRefusal.{ReadRefusal}
use Rattle.pdu.specs.declared.ReadRefusal.TheVariants as unread
use Rattle.octets.{specs.Bytes.num_at, proofs.{Numbers.{num_same, num_two}, Truths.{and_is, never}}}
use Rattle.pdu.specs.{Item.{Item, low, num, cap, duo, skip, Row, Value, ◌≔◌}, Table.{row_of, service_at}, Pdus.{service_of, values_of, pdu_of}}
use Rattle.pdu.specs.{Rules.{code_of, low_at, four_at, twelve_at, values_at, fits}, Read.{read_found, read_pdu, data_at, data_of}, declared.Service.Service}
use Rattle.pdu.{specs.declared.Pdu.Pdu, proofs.Formed.{later_formed, items_formed, formed_says}}
use Rattle.pdu.proofs.{Items.two_or_more, Sound.sound}

pub record SameApdu (a b : List ℕ) : Type 0 where
  pub long : length a ≡ length b
  pub first : get_or a 0 0 % 4 ≡ get_or b 0 0 % 4
  pub rest : (j : ℕ) → get_or a (suc j) 0 ≡ get_or b (suc j) 0

module _ (a b : List ℕ) (h : SameApdu a b) where
  later : (j : ℕ) → 1 ≤ j → get_or a j 0 ≡ get_or b j 0
  later zero k = absurd (omega arith)
  later (suc j) k = h.rest j

  number_alike : (at w : ℕ) → 2 ≤ at → num_at a at w ≡ num_at b at w
  number_alike at w k = num_same a b at at w (λ i l. later (at + i) (omega arith))

  pub code_alike : code_of a ≡ code_of b
  code_alike = omega (arith, num_two a 0, num_two b 0, h.first, h.rest 0)

  low_alike : (m : ℕ) → 1024 % m ≡ 0 → low_at a m ≡ low_at b m
  unfolding low_at
  low_alike m d =
      sym (mod-mod_of_dvd m (num_at a 0 2) (dvd_of_mod-eq-zero m d))
      ∙ ap (λ (n : ℕ). n % m) code_alike
      ∙ mod-mod_of_dvd m (num_at b 0 2) (dvd_of_mod-eq-zero m d)

  later_alike : (is : List Item) (at : ℕ) → 2 ≤ at → later_formed is ≡ true → values_at is at a ≡ values_at is at b
  unfolding four_at twelve_at
  later_alike [] at k e = refl
  later_alike (low f m ∷ is) at k e = never e
  later_alike (num f w ∷ is) at k e =
      ap₂ (λ (n : ℕ) (x : List Value). f ≔ n ∷ x) (number_alike at w k) (later_alike is (at + w) (omega arith) e)
  later_alike (cap f w m ∷ is) at k e =
      ap₂ (λ (n : ℕ) (x : List Value). f ≔ n ∷ x) (number_alike at w k) (later_alike is (at + w) (omega arith) ((and_is (leb m (256 ^ w)) (later_formed is)).0 e).1)
  later_alike (duo f g ∷ is) at k e =
      ap₂ (λ (n : ℕ) (x : List Value). (f ≔ (n / 4096)) ∷ (g ≔ (n % 4096)) ∷ x) (number_alike at 2 k) (later_alike is (at + 2) (omega arith) e)
  later_alike (skip w ∷ is) at k e = later_alike is (at + w) (omega arith) e

  items_alike : (c n : ℕ) (is : List Item) → items_formed c n is ≡ true → values_at is 2 a ≡ values_at is 2 b
  items_alike c n [] e = refl
  items_alike c n (low f m ∷ is) e =
      let e₁ = ((and_is (eqb n m) (eqb (c % m) 0 && (eqb (1024 % m) 0 && later_formed is))).0 e).1 in
      let e₂ = ((and_is (eqb (c % m) 0) (eqb (1024 % m) 0 && later_formed is)).0 e₁).1 in
      let e₃ = (and_is (eqb (1024 % m) 0) (later_formed is)).0 e₂ in
      ap₂ (λ (n : ℕ) (x : List Value). f ≔ n ∷ x) (low_alike m (eqb-true (1024 % m) 0 e₃.0)) (later_alike is 2 (omega arith) e₃.1)
  items_alike c n (num f w ∷ is) e = later_alike (num f w ∷ is) 2 (omega arith) ((and_is (eqb n 1) (later_formed (num f w ∷ is))).0 e).1
  items_alike c n (cap f w m ∷ is) e = later_alike (cap f w m ∷ is) 2 (omega arith) ((and_is (eqb n 1) (later_formed (cap f w m ∷ is))).0 e).1
  items_alike c n (duo f g ∷ is) e = later_alike (duo f g ∷ is) 2 (omega arith) ((and_is (eqb n 1) (later_formed (duo f g ∷ is))).0 e).1
  items_alike c n (skip w ∷ is) e = later_alike (skip w ∷ is) 2 (omega arith) ((and_is (eqb n 1) (later_formed (skip w ∷ is))).0 e).1

  values_alike : (k : Service) → values_at (row_of k).items 2 a ≡ values_at (row_of k).items 2 b
  values_alike k =
      let r : Row = row_of k in items_alike r.base r.span r.items (formed_says r (sound k).form).items_ok

  found_alike : (f : Option Service) → read_found f a ≡ read_found f b
  found_alike None = refl
  found_alike (Some k) =
      ap₂ (λ (x : List Value) (n : ℕ). cond (fits (row_of k) x n) (Ok (pdu_of k x)) (Err unread.Fields)) (values_alike k) h.long

  -- THEY READ AS ONE
  pub read_alike : read_pdu a ≡ read_pdu b
  unfolding read_pdu
  read_alike =
      ap₂ (λ (n : ℕ) (z : Result Pdu ReadRefusal). cond (ltb n 2) (Err unread.Length) (cond (ltb 16 n) (Err unread.Length) z)) h.long
      (ap (λ (c : ℕ). read_found (service_at c) a) code_alike ∙ found_alike (service_at (code_of b)))

  rest_alike : (n : ℕ) → 1 ≤ n → drop n a ≡ drop n b
  rest_alike n k =
      ext_get_or 0 (drop n a) (drop n b) (length-drop n a ∙ ap (λ (m : ℕ). m - n) h.long ∙ sym (length-drop n b))
      (λ i l. get_or-drop n a i 0 ∙ later (n + i) (omega arith) ∙ sym (get_or-drop n b i 0))

  -- WITH THE SAME DATA
  pub data_alike : (p : Pdu) → data_of p a ≡ data_of p b
  unfolding data_of
  data_alike p = rest_alike (data_at p) (omega (arith, two_or_more (row_of (service_of p)) (values_of p)))
