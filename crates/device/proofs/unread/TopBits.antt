-- Two requests that differ in the top six bits of the first byte read and are judged alike.
use Rattle.octets.proofs.Kit.{ℕ, zero, suc, ◌+◌, ◌*◌, ◌%◌, ◌^◌, ◌≤◌, ◌≡◌, refl, sym, ap, ap₂, ◌∙◌, true, cond, not, ◌&&◌, List, [], ◌∷◌, mod-mod_of_dvd, dvd_of_mod-eq-zero, arith, ltb, leb}
use Rattle.octets.proofs.Kit.{eqb, length, get_or, drop, eqb-true}
use Rattle.std.proofs.Common.{Option, Some, None, Result, Ok, Err}
use Rattle.pdu.specs.declared.Service.{Service}
use Rattle.pdu.specs.declared.ReadRefusal.{ReadRefusal}
use Rattle.pdu.specs.declared.ReadRefusal.TheVariants as unread
use Rattle.octets.{specs.Bytes.num_at, proofs.{Numbers.{num_two, num_same}, Truths.{and_is, never}}}
use Rattle.sheet.specs.Head.{rules_of}
use Rattle.pdu.specs.{Item.{Name, Item, Value, low, num, cap, duo, skip, ◌≔◌}, Table.{row_of, service_at}, Rules.{code_of, low_at, four_at, twelve_at, values_at, fits}}
use Rattle.pdu.specs.{Pdus.{service_of, values_of, pdu_of}, Read.{read_pdu, read_found, data_of, data_at}}
use Rattle.pdu.{specs.declared.Pdu.Pdu, proofs.{Formed.{later_formed, items_formed, formed_says}, Sound.sound, Items.two_or_more}}
use Rattle.judge.specs.{declared.{Session.Session, Decision.Decision}, Session.level_in, Modes.{reach_of, reaches, takes}, Decisions.refused}
use Rattle.judge.specs.Judge.{decide_of, read_of, reached_of, found_of, judge_of, data_in}

-- two requests that differ in the top six bits of the first byte
module _ (b b' : ℕ) (l : List ℕ) (h : b % 4 ≡ b' % 4) where
  get_same : (n : ℕ) → 1 ≤ n → get_or (b ∷ l) n 0 ≡ get_or (b' ∷ l) n 0
  get_same zero k = absurd (omega arith)
  get_same (suc n) k = refl

  drop_same : (n : ℕ) → 1 ≤ n → drop n (b ∷ l) ≡ drop n (b' ∷ l)
  drop_same zero k = absurd (omega arith)
  drop_same (suc n) k = refl

  number_same : (at w : ℕ) → 1 ≤ at → num_at (b ∷ l) at w ≡ num_at (b' ∷ l) at w
  number_same at w k = num_same (b ∷ l) (b' ∷ l) at at w (λ i m. get_same (at + i) (omega arith))

  code_same : code_of (b ∷ l) ≡ code_of (b' ∷ l)
  code_same =
      let e : num_at (b ∷ l) 0 2 ≡ b * 256 + get_or l 0 0 = num_two (b ∷ l) 0 in
      let f : num_at (b' ∷ l) 0 2 ≡ b' * 256 + get_or l 0 0 = num_two (b' ∷ l) 0 in
      omega arith

  low_same : (m : ℕ) → 1024 % m ≡ 0 → low_at (b ∷ l) m ≡ low_at (b' ∷ l) m
  unfolding low_at
  low_same m d =
      sym (mod-mod_of_dvd m (num_at (b ∷ l) 0 2) (dvd_of_mod-eq-zero m d))
      ∙ ap (λ (c : ℕ). c % m) code_same
      ∙ mod-mod_of_dvd m (num_at (b' ∷ l) 0 2) (dvd_of_mod-eq-zero m d)

  four_same : (at : ℕ) → 1 ≤ at → four_at (b ∷ l) at ≡ four_at (b' ∷ l) at
  unfolding four_at
  four_same at k = rw (number_same at 2 k)

  twelve_same : (at : ℕ) → 1 ≤ at → twelve_at (b ∷ l) at ≡ twelve_at (b' ∷ l) at
  unfolding twelve_at
  twelve_same at k = rw (number_same at 2 k)

  -- a field and those after it
  field : (f : Name) (m n : ℕ) (x y : List Value) → m ≡ n → x ≡ y → f ≔ m ∷ x ≡ f ≔ n ∷ y
  field f m n x y p q = ap₂ (λ (k : ℕ) (z : List Value). f ≔ k ∷ z) p q

  later_same : (is : List Item) (at : ℕ) → 1 ≤ at → later_formed is ≡ true → values_at is at (b ∷ l) ≡ values_at is at (b' ∷ l)
  later_same [] at k e = refl
  later_same (low f m ∷ is) at k e = never e
  later_same (num f w ∷ is) at k e = field f _ _ _ _ (number_same at w k) (later_same is (at + w) (omega arith) e)
  later_same (cap f w m ∷ is) at k e =
      field f _ _ _ _ (number_same at w k) (later_same is (at + w) (omega arith) ((and_is (leb m (256 ^ w)) (later_formed is)).0 e).1)
  later_same (duo f g ∷ is) at k e =
      field f _ _ _ _ (four_same at k) (field g _ _ _ _ (twelve_same at k) (later_same is (at + 2) (omega arith) e))
  later_same (skip w ∷ is) at k e = later_same is (at + w) (omega arith) e

  items_same : (a n : ℕ) (is : List Item) → items_formed a n is ≡ true → values_at is 2 (b ∷ l) ≡ values_at is 2 (b' ∷ l)
  items_same a n [] e = refl
  items_same a n (low f m ∷ is) e =
      let t = (and_is (eqb (a % m) 0) (eqb (1024 % m) 0 && later_formed is)).0 ((and_is (eqb n m) _).0 e).1 in
      let u = (and_is (eqb (1024 % m) 0) (later_formed is)).0 t.1 in
      field f _ _ _ _ (low_same m (eqb-true (1024 % m) 0 u.0)) (later_same is 2 (omega arith) u.1)
  items_same a n (num f w ∷ is) e = later_same (num f w ∷ is) 2 (omega arith) ((and_is (eqb n 1) _).0 e).1
  items_same a n (cap f w m ∷ is) e = later_same (cap f w m ∷ is) 2 (omega arith) ((and_is (eqb n 1) _).0 e).1
  items_same a n (duo f g ∷ is) e = later_same (duo f g ∷ is) 2 (omega arith) ((and_is (eqb n 1) _).0 e).1
  items_same a n (skip w ∷ is) e = later_same (skip w ∷ is) 2 (omega arith) ((and_is (eqb n 1) _).0 e).1

  read_found_same : (f : Option Service) → read_found f (b ∷ l) ≡ read_found f (b' ∷ l)
  read_found_same None = refl
  read_found_same (Some k) =
      ap (λ (x : List Value). cond (fits (row_of k) x (length (b ∷ l))) (Ok (pdu_of k x)) (Err unread.Fields))
      (items_same (row_of k).base (row_of k).span (row_of k).items (formed_says (row_of k) (sound k).form).items_ok)

  pub read_same : read_pdu (b ∷ l) ≡ read_pdu (b' ∷ l)
  unfolding read_pdu
  read_same =
      ap (λ (z : Result Pdu ReadRefusal). cond (ltb (length (b ∷ l)) 2) (Err unread.Length) (cond (ltb 16 (length (b ∷ l))) (Err unread.Length) z))
      (ap (λ (c : ℕ). read_found (service_at c) (b ∷ l)) code_same ∙ read_found_same (service_at (code_of (b' ∷ l))))

  data_same : (p : Pdu) → data_of p (b ∷ l) ≡ data_of p (b' ∷ l)
  unfolding data_of
  data_same p = drop_same (data_at p) (omega (arith, two_or_more (row_of (service_of p)) (values_of p)))

  pub data_in_same : (z : Result Pdu ReadRefusal) → data_in z (b ∷ l) ≡ data_in z (b' ∷ l)
  data_in_same (Ok p) = data_same p
  data_in_same (Err n) = refl

  module _ (room : ℕ) (s : List ℕ) (q : Session) (mode g : ℕ) where
    read_of_same : (level : ℕ) (z : Result Pdu ReadRefusal) → read_of s level g (b ∷ l) z ≡ read_of s level g (b' ∷ l) z
    read_of_same level (Ok p) = ap (λ (d : List ℕ). decide_of s level g d p) (data_same p)
    read_of_same level (Err n) = refl

    found_of_same : (f : Option Service) → found_of s q mode g (b ∷ l) f ≡ found_of s q mode g (b' ∷ l) f
    unfolding reached_of
    found_of_same None = refl
    found_of_same (Some k) =
        ap (λ (d : Decision). cond (not (reaches (reach_of (rules_of s) k))) (refused 8) (cond (not (takes (reach_of (rules_of s) k) mode)) (refused 9) d))
        (ap (read_of s (level_in q mode) g (b ∷ l)) read_same ∙ read_of_same (level_in q mode) (read_pdu (b' ∷ l)))

    pub judge_same : judge_of room s q mode g (b ∷ l) ≡ judge_of room s q mode g (b' ∷ l)
    unfolding judge_of
    judge_same =
        rw (ap (λ (c : ℕ). found_of s q mode g (b ∷ l) (service_at c)) code_same ∙ found_of_same (service_at (code_of (b' ∷ l))))
