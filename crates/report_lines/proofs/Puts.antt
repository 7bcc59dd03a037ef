-- Texts put into a line one after the other.
use Rattle.std.proofs.Common.{◌≡◌, ◌++◌, codes, ap, sym, ◌∙◌, append_assoc}
use Rattle.text_terms.specs.Written.{line_of}
use Rattle.run_terms.specs.Files.{Bytes}

-- three texts, each with a number, put into a line one after the other
pub three_put : (a x b y c z put_y put_z first second third last : Bytes) → first ≡ a ++ x → second ≡ first ++ (b ++ put_y) → third ≡ second ++ (c ++ put_z) →
    last ≡ third ++ codes "\n"
    → put_y ≡ y → put_z ≡ z → last ≡ line_of (a ++ x ++ b ++ y ++ c ++ z)
three_put a x b y c z put_y put_z first second third last one two three end is_y is_z =
    let before : second ≡ a ++ x ++ b ++ y = two ∙ (λ i. one i ++ (b ++ is_y i)) ∙ sym (append_assoc (a ++ x) b y) in
    let all : third ≡ a ++ x ++ b ++ y ++ c ++ z = three ∙ (λ i. before i ++ (c ++ is_z i)) ∙ sym (append_assoc (a ++ x ++ b ++ y) c z) in
    end ∙ ap line_of all

-- a word and five texts, put into a line one after the other
pub five_put : (old word x space y z p1 p2 p3 p4 p5 p6 : Bytes) → p1 ≡ old ++ word → p2 ≡ p1 ++ x → p3 ≡ p2 ++ space → p4 ≡ p3 ++ y → p5 ≡ p4 ++ space →
    p6 ≡ p5 ++ z → p6 ≡ old ++ (word ++ (x ++ space ++ y ++ space ++ z))
five_put old word x space y z p1 p2 p3 p4 p5 p6 h1 h2 h3 h4 h5 h6 =
    let all : p6 ≡ old ++ word ++ x ++ space ++ y ++ space ++ z = cc in
    let same : old ++ word ++ x ++ space ++ y ++ space ++ z ≡ old ++ (word ++ (x ++ space ++ y ++ space ++ z)) = simp append_assoc in
    cc
