-- Whether two pointers are the same, as a test.
use Rattle.std.proofs.Common.{◌≡◌, ◌∙◌, ℕ, ◌==◌, ◌&&◌, Bool, true, false, refl, sym, ap, ap₂}
use denote.RawPtr.{Ptr, block_ptr, null_ptr}
use Rattle.edge_lists.specs.Heap.{same_ptr}
use Rattle.edge_lists.proofs.Numbers.{eq_of, eq_refl, eq_symm}

pub same_ptr_refl : (p : Ptr) → same_ptr p p ≡ true
same_ptr_refl (block_ptr b o) = ap₂ (λ (x y : Bool). x && y) (eq_refl b) (eq_refl o)
same_ptr_refl null_ptr = refl

pub same_ptr_symm : (p q : Ptr) → same_ptr p q ≡ same_ptr q p
same_ptr_symm (block_ptr b o) (block_ptr c u) = ap₂ (λ (x y : Bool). x && y) (eq_symm b c) (eq_symm o u)
same_ptr_symm (block_ptr b o) null_ptr = refl
same_ptr_symm null_ptr (block_ptr c u) = refl
same_ptr_symm null_ptr null_ptr = refl

first_of : (x y : Bool) → (x && y) ≡ true → x ≡ true
first_of true y e = refl
first_of false y e = e

second_of : (x y : Bool) → (x && y) ≡ true → y ≡ true
second_of true y e = e
second_of false y e = cc

pub same_ptr_eq : (p q : Ptr) → same_ptr p q ≡ true → p ≡ q
same_ptr_eq (block_ptr b o) (block_ptr c u) e =
    ap₂ block_ptr (eq_of b c (first_of (b == c) (o == u) e)) (eq_of o u (second_of (b == c) (o == u) e))
same_ptr_eq (block_ptr b o) null_ptr e = cc
same_ptr_eq null_ptr (block_ptr c u) e = cc
same_ptr_eq null_ptr null_ptr e = refl
