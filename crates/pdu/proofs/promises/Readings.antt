-- What is known of an APDU that reads, whatever its bytes: its service, its fields, and that its row lets them stand.
use Rattle.octets.proofs.Kit.{ℕ, ◌≤◌, ◌≡◌, refl, sym, ap, subst, ◌∙◌, Bool, true, false, cond, List, arith, ltb, length, ltb-false, le-ltb}
use Rattle.std.proofs.Common.{Option, Some, None, Ok, Err}
use Rattle.pdu.specs.declared.ReadRefusal.TheVariants as unread
use Rattle.pdu.specs.{Item.Value, Table.{row_of, service_at}, Pdus.{service_of, values_of}, Rules.{code_of, values_at, fits}, Read.{built_of, read_found, read_pdu}, Write.fits_in}
use Rattle.pdu.specs.declared.{Service.Service, Pdu.Pdu, ReadRefusal.ReadRefusal}
use Rattle.pdu.proofs.Sound.{sound}

pub record Reading (b : List ℕ) (p : Pdu) : Type 0 where
  pub least : 2 ≤ length b
  pub most : length b ≤ 16
  pub names : service_at (code_of b) ≡ Some (service_of p)
  pub fields : values_of p ≡ values_at (row_of (service_of p)).items 2 b
  pub fit : fits_in p (length b) ≡ true

module _ (b : List ℕ) where
  -- of the PDU that a row builds
  built :
      (k : Service) → 2 ≤ length b → length b ≤ 16 → service_at (code_of b) ≡ Some k →
      fits (row_of k) (values_at (row_of k).items 2 b) (length b) ≡ true → Reading b (built_of k b)
  built k l m n f =
      let x : List Value = values_at (row_of k).items 2 b in
      let j : k ≡ service_of (built_of k b) = sym ((sound k).serves x) in
      let y : x ≡ values_of (built_of k b) = sym ((sound k).values x ∙ (sound k).distinct b) in
      record {
        least = l;
        most = m;
        names = n ∙ ap Some j;
        fields = subst (λ (i : Service). values_of (built_of k b) ≡ values_at (row_of i).items 2 b) j (sym y);
        fit = subst (λ (i : Service). fits (row_of i) (values_of (built_of k b)) (length b) ≡ true) j (subst (λ (v : List Value). fits (row_of k) v (length b) ≡ true) y f);
      }

  module _ (p : Pdu) where
    by_row :
        (k : Service) → 2 ≤ length b → length b ≤ 16 → service_at (code_of b) ≡ Some k → (t : Bool) →
        fits (row_of k) (values_at (row_of k).items 2 b) (length b) ≡ t → cond t (Ok (built_of k b)) (Err unread.Fields) ≡ Ok p → Reading b p
    by_row k l m n true f e = let q : built_of k b ≡ p = cc in subst (Reading b) q (built k l m n f)
    by_row k l m n false f e = let z : ◌≡◌ {A = ℕ} 0 1 = cc in absurd (omega arith)

    by_code :
        2 ≤ length b → length b ≤ 16 → (f : Option Service) → service_at (code_of b) ≡ f → read_found f b ≡ Ok p → Reading b p
    by_code l m None n e = let z : ◌≡◌ {A = ℕ} 0 1 = cc in absurd (omega arith)
    by_code l m (Some k) n e = by_row k l m n (fits (row_of k) (values_at (row_of k).items 2 b) (length b)) refl e

    -- WHAT READS HAS A SERVICE WHOSE ROW LETS IT STAND
    pub reading : read_pdu b ≡ Ok p → Reading b p
    unfolding read_pdu
    reading e = go (ltb (length b) 2) refl (ltb 16 (length b)) refl e
      where
        go : (t : Bool) → ltb (length b) 2 ≡ t → (u : Bool) → ltb 16 (length b) ≡ u →
            cond t (Err unread.Length) (cond u (Err unread.Length) (read_found (service_at (code_of b)) b)) ≡ Ok p → Reading b p
        go true h u k e = let z : ◌≡◌ {A = ℕ} 0 1 = cc in absurd (omega arith)
        go false h true k e = let z : ◌≡◌ {A = ℕ} 0 1 = cc in absurd (omega arith)
        go false h false k e =
            by_code (ltb-false (length b) 2 h) (ltb-false 16 (length b) k) (service_at (code_of b)) refl e

  -- what a row does not let stand is refused for its fields, and for nothing else
  pub refused_row :
      (k : Service) (n : ReadRefusal) → 2 ≤ length b → length b ≤ 16 → service_at (code_of b) ≡ Some k → read_pdu b ≡ Err n → n ≡ unread.Fields
  unfolding read_pdu
  refused_row k n l m e q =
      go (fits (row_of k) (values_at (row_of k).items 2 b) (length b)) (simp (le-ltb (length b) 2 l, le-ltb 16 (length b) m, e) at q)
    where
      go : (t : Bool) → cond t (Ok (built_of k b)) (Err unread.Fields) ≡ Err n → n ≡ unread.Fields
      go true q = cc
      go false q = cc
