-- A frame that reads, as plain propositions.
use Rattle.std.specs.Prelude.{ℕ, ◌+◌, ◌%◌, ◌≤◌, ◌<◌, ◌≡◌, ◌⊎◌}
use Rattle.cemi.specs.Layout.{request, indication, octet6}
use Rattle.cemi.specs.declared.Fields.{Fields}

-- n bytes with l of additional information, these fields and the length byte x are a standard frame
pub record Standard (n l : ℕ) (f : Fields) (x : ℕ) : Type 0 where
  pub long : 10 + l ≤ n
  pub known : (f.code ≡ request) ⊎ (f.code ≡ indication)
  pub standard : 128 ≤ f.control1
  pub plain : f.control2 % 16 ≡ 0
  pub short : x ≤ 15
  pub stated : octet6 l + (x + 1) ≡ n

-- WHICH NUMBER IS DUE: 0 for a standard frame, else the first that the frame is against
pub data Due (n l : ℕ) (f : Fields) (x : ℕ) : ℕ → Type 0 where
  too_short : n < 10 + l → Due n l f x 40
  other_code : 10 + l ≤ n → (f.code ≡ request → ⊥) → (f.code ≡ indication → ⊥) → Due n l f x 41
  not_standard :
      10 + l ≤ n → (f.code ≡ request) ⊎ (f.code ≡ indication) → (f.control1 < 128) ⊎ (f.control2 % 16 ≡ 0 → ⊥) → Due n l f x 42
  wrong_length :
      10 + l ≤ n → (f.code ≡ request) ⊎ (f.code ≡ indication) → 128 ≤ f.control1 → f.control2 % 16 ≡ 0 →
      (15 < x) ⊎ (octet6 l + (x + 1) ≡ n → ⊥) → Due n l f x 43
  nothing : Standard n l f x → Due n l f x 0
