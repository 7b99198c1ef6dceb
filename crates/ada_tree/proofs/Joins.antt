-- Lists of words one after another, however they are grouped.
use Rattle.std.proofs.Common.{◌≡◌, [], ◌++◌, append_assoc, append-nil}
use Rattle.ada_syntax.specs.Words.{Words}

pub flat2 : (a b : Words) → a ++ b ≡ a ++ (b ++ [])
flat2 a b = simp (append_assoc, append-nil)

pub flat3 : (a b c : Words) → a ++ b ++ c ≡ a ++ (b ++ (c ++ []))
flat3 a b c = simp (append_assoc, append-nil)

pub flat5 : (a b c d e : Words) → a ++ b ++ c ++ d ++ e ≡ a ++ (b ++ (c ++ (d ++ (e ++ []))))
flat5 a b c d e = simp (append_assoc, append-nil)

pub flat6 : (a b c d e f : Words) → a ++ b ++ c ++ d ++ e ++ f ≡ a ++ (b ++ (c ++ (d ++ (e ++ (f ++ [])))))
flat6 a b c d e f = simp (append_assoc, append-nil)

pub flat7 : (a b c d e f g : Words) → a ++ b ++ c ++ d ++ e ++ f ++ g ≡ a ++ (b ++ (c ++ (d ++ (e ++ (f ++ (g ++ []))))))
flat7 a b c d e f g = simp (append_assoc, append-nil)

pub record5 : (a b c d e : Words) → a ++ (b ++ c) ++ d ++ e ≡ a ++ (b ++ (c ++ (d ++ (e ++ []))))
record5 a b c d e = simp (append_assoc, append-nil)

pub branch5 : (a b c d e : Words) → a ++ (b ++ c ++ d) ++ e ≡ a ++ (b ++ (c ++ (d ++ (e ++ []))))
branch5 a b c d e = simp (append_assoc, append-nil)

pub case8 : (a b c d e f g h : Words) → a ++ b ++ c ++ (d ++ e) ++ f ++ g ++ h ≡ a ++ (b ++ (c ++ (d ++ (e ++ (f ++ (g ++ (h ++ [])))))))
case8 a b c d e f g h = simp (append_assoc, append-nil)
