-- Products of whole numbers distribute over sums, and group as one likes.
use Rattle.std.proofs.Common.{◌≡◌, refl, sym, ◌∙◌, ap, zero, suc, arith, ℤ, pos, negsuc, ◌+ℤ◌, ◌-ℤ◌, ◌*ℤ◌}
use Rattle.std.proofs.lemmas.Int.{ints}
use Rattle.std.proofs.Math.IntN.{suc_ℤ, pred_ℤ, suc_ℤ-+ℤ, pred_ℤ-+ℤ, suc_ℤ-*ℤ, pred_ℤ-*ℤ, zero-*ℤ, +ℤ_idl, *ℤ_comm}

joined : (p q r s t k : ℤ) → p ≡ q +ℤ k → q ≡ r +ℤ s → t ≡ r +ℤ k → p ≡ t +ℤ s
joined p q r s t k e f g = omega (arith, ints)

joined_down : (p q r s t k : ℤ) → p ≡ q -ℤ k → q ≡ r +ℤ s → t ≡ r -ℤ k → p ≡ t +ℤ s
joined_down p q r s t k e f g = omega (arith, ints)

none_added : (x y z s : ℤ) → x ≡ s → y ≡ pos 0 → x ≡ y +ℤ s
none_added x y z s e f = omega (arith, ints)

add_mul-suc : (m b k : ℤ) → (m +ℤ b) *ℤ k ≡ (m *ℤ k) +ℤ (b *ℤ k) → (suc_ℤ m +ℤ b) *ℤ k ≡ (suc_ℤ m *ℤ k) +ℤ (b *ℤ k)
add_mul-suc m b k h = joined _ _ _ _ _ k (ap (λ (x : ℤ). x *ℤ k) (suc_ℤ-+ℤ m b) ∙ suc_ℤ-*ℤ (m +ℤ b) k) h (suc_ℤ-*ℤ m k)

add_mul-pred : (m b k : ℤ) → (m +ℤ b) *ℤ k ≡ (m *ℤ k) +ℤ (b *ℤ k) → (pred_ℤ m +ℤ b) *ℤ k ≡ (pred_ℤ m *ℤ k) +ℤ (b *ℤ k)
add_mul-pred m b k h = joined_down _ _ _ _ _ k (ap (λ (x : ℤ). x *ℤ k) (pred_ℤ-+ℤ m b) ∙ pred_ℤ-*ℤ (m +ℤ b) k) h (pred_ℤ-*ℤ m k)

add_mul-zero : (b k : ℤ) → (pos 0 +ℤ b) *ℤ k ≡ (pos 0 *ℤ k) +ℤ (b *ℤ k)
add_mul-zero b k = none_added _ _ k _ (ap (λ (x : ℤ). x *ℤ k) (+ℤ_idl b)) (zero-*ℤ k)

pub add_mul : (a b k : ℤ) → (a +ℤ b) *ℤ k ≡ (a *ℤ k) +ℤ (b *ℤ k)
add_mul (pos zero) b k = add_mul-zero b k
add_mul (pos (suc n)) b k = add_mul-suc (pos n) b k (add_mul (pos n) b k)
add_mul (negsuc zero) b k = add_mul-pred (pos 0) b k (add_mul-zero b k)
add_mul (negsuc (suc n)) b k = add_mul-pred (negsuc n) b k (add_mul (negsuc n) b k)

pub mul_add : (k a b : ℤ) → k *ℤ (a +ℤ b) ≡ (k *ℤ a) +ℤ (k *ℤ b)
mul_add k a b = rw (*ℤ_comm k (a +ℤ b), *ℤ_comm k a, *ℤ_comm k b) (add_mul a b k)

removed : (x y z : ℤ) → x ≡ z -ℤ y → x +ℤ y ≡ z
removed x y z e = omega (arith, ints)

taken : (p q r s : ℤ) → (q ≡ p +ℤ r) → s ≡ q → p ≡ s -ℤ r
taken p q r s e f = omega (arith, ints)

pub sub_mul : (a b k : ℤ) → (a -ℤ b) *ℤ k ≡ (a *ℤ k) -ℤ (b *ℤ k)
sub_mul a b k =
    taken _ _ _ _ (add_mul (a -ℤ b) b k) (ap (λ (x : ℤ). x *ℤ k) (sym (removed (a -ℤ b) b a refl)))

mul_assoc-suc : (m b k : ℤ) → (m *ℤ b) *ℤ k ≡ m *ℤ (b *ℤ k) → (suc_ℤ m *ℤ b) *ℤ k ≡ suc_ℤ m *ℤ (b *ℤ k)
mul_assoc-suc m b k h =
    ap (λ (x : ℤ). x *ℤ k) (suc_ℤ-*ℤ m b) ∙ add_mul (m *ℤ b) b k ∙ ap (λ (x : ℤ). x +ℤ (b *ℤ k)) h ∙ sym (suc_ℤ-*ℤ m (b *ℤ k))

mul_assoc-pred : (m b k : ℤ) → (m *ℤ b) *ℤ k ≡ m *ℤ (b *ℤ k) → (pred_ℤ m *ℤ b) *ℤ k ≡ pred_ℤ m *ℤ (b *ℤ k)
mul_assoc-pred m b k h =
    ap (λ (x : ℤ). x *ℤ k) (pred_ℤ-*ℤ m b) ∙ sub_mul (m *ℤ b) b k ∙ ap (λ (x : ℤ). x -ℤ (b *ℤ k)) h ∙ sym (pred_ℤ-*ℤ m (b *ℤ k))

mul_assoc-zero : (b k : ℤ) → (pos 0 *ℤ b) *ℤ k ≡ pos 0 *ℤ (b *ℤ k)
mul_assoc-zero b k = ap (λ (x : ℤ). x *ℤ k) (zero-*ℤ b) ∙ zero-*ℤ k ∙ sym (zero-*ℤ (b *ℤ k))

pub mul_assoc : (a b k : ℤ) → (a *ℤ b) *ℤ k ≡ a *ℤ (b *ℤ k)
mul_assoc (pos zero) b k = mul_assoc-zero b k
mul_assoc (pos (suc n)) b k = mul_assoc-suc (pos n) b k (mul_assoc (pos n) b k)
mul_assoc (negsuc zero) b k = mul_assoc-pred (pos 0) b k (mul_assoc-zero b k)
mul_assoc (negsuc (suc n)) b k = mul_assoc-pred (negsuc n) b k (mul_assoc (negsuc n) b k)

-- the middle factors change places
pub mul_mul : (a b c d : ℤ) → (a *ℤ b) *ℤ (c *ℤ d) ≡ (a *ℤ c) *ℤ (b *ℤ d)
mul_mul a b c d =
    mul_assoc a b (c *ℤ d)
    ∙ ap (λ (x : ℤ). a *ℤ x) (sym (mul_assoc b c d) ∙ ap (λ (x : ℤ). x *ℤ d) (*ℤ_comm b c) ∙ mul_assoc c b d)
    ∙ sym (mul_assoc a c (b *ℤ d))
