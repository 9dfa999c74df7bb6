-- A newline after a text is read as nothing.
use Rattle.std.proofs.Common.{◌≡◌, ℕ, Bool, true, false, cond, ◌&&◌, List, [], ◌∷◌, ◌++◌, refl, sym, ap, ap₂, ◌∙◌, append_assoc, append-nil}
use Rattle.json.specs.Token.{Token, begin_object, end_object, begin_array, end_array, key, string, number, boolean, null, bad}
use Rattle.json.specs.Word.{ends_word, word}
use Rattle.json.specs.Lex.{Lexeme, token, comma, colon, string_token, lex, between, fresh, punctuate, tokens}
use Rattle.json.specs.Print.{escape, quoted, token_text, begins, ends, separator, print_from, print, IsPrintable, ArePrintable}
use Rattle.json.proofs.Printed.Strings.{content-escape, lex-escape}
use Rattle.json.proofs.Printed.Numbers.{lex-number, in_word-ended}
use Rattle.json.proofs.Printed.Tokens.{tokens-print}

abbrev lexemes_of : Token → List Lexeme
lexemes_of begin_object = token begin_object ∷ []
lexemes_of end_object = token end_object ∷ []
lexemes_of begin_array = token begin_array ∷ []
lexemes_of end_array = token end_array ∷ []
lexemes_of (key s) = token (string s) ∷ colon ∷ []
lexemes_of (string s) = token (string s) ∷ []
lexemes_of (number s) = token (number s) ∷ []
lexemes_of (boolean b) = token (boolean b) ∷ []
lexemes_of null = token null ∷ []
lexemes_of bad = []

-- after a value stands a comma, a closing bracket or what ends the text
value_ends : (ts : List Token) (end : List ℕ) → ends_word end ≡ true → ends_word (print_from true ts ++ end) ≡ true
unfolding print_from
value_ends [] end ended = ended
value_ends (begin_object ∷ ts) end ended = refl
value_ends (end_object ∷ ts) end ended = refl
value_ends (begin_array ∷ ts) end ended = refl
value_ends (end_array ∷ ts) end ended = refl
value_ends (key s ∷ ts) end ended = refl
value_ends (string s ∷ ts) end ended = refl
value_ends (number s ∷ ts) end ended = refl
value_ends (boolean b ∷ ts) end ended = refl
value_ends (null ∷ ts) end ended = refl
value_ends (bad ∷ ts) end ended = refl

lex-quoted : (s rest : List ℕ) → lex between (quoted s ++ rest) ≡ token (string s) ∷ lex between rest
unfolding lex
lex-quoted s rest =
    ap (λ l. lex between (34 ∷ l)) (append_assoc (escape s) (34 ∷ []) rest)
    ∙ ap₂ (λ o l. token (string_token o) ∷ l) (content-escape s rest) (lex-escape s rest)

lex-token_text : (t : Token) (rest : List ℕ) → IsPrintable t → (ends t ≡ true → ends_word rest ≡ true) → lex between (token_text t ++ rest) ≡ lexemes_of t ++ lex between rest
unfolding lex word
lex-token_text begin_object rest good ended = refl
lex-token_text end_object rest good ended = refl
lex-token_text begin_array rest good ended = refl
lex-token_text end_array rest good ended = refl
lex-token_text (key s) rest good ended = ap (lex between) (append_assoc (quoted s) (58 ∷ []) rest) ∙ lex-quoted s (58 ∷ rest)
lex-token_text (string s) rest good ended = lex-quoted s rest
lex-token_text (number s) rest good ended = lex-number s rest good (ended refl)
lex-token_text (boolean true) rest good ended = ap₂ (λ b l. token (cond b (boolean true) bad) ∷ l) (ended refl) (in_word-ended rest (ended refl))
lex-token_text (boolean false) rest good ended = ap₂ (λ b l. token (cond b (boolean false) bad) ∷ l) (ended refl) (in_word-ended rest (ended refl))
lex-token_text null rest good ended = ap₂ (λ b l. token (cond b null bad) ∷ l) (ended refl) (in_word-ended rest (ended refl))
lex-token_text bad rest good ended = absurd good

lex-separator : (b : Bool) (rest : List ℕ) → lex between (cond b (44 ∷ []) [] ++ rest) ≡ cond b (comma ∷ []) [] ++ lex between rest
unfolding lex
lex-separator true rest = refl
lex-separator false rest = refl

-- the lexemes of tokens that are printed, and what follows them
abbrev lexemes : Bool → List Token → List Lexeme → List Lexeme
lexemes after_value [] rest = rest
lexemes after_value (t ∷ ts) rest = cond (after_value && begins t) (comma ∷ []) [] ++ (lexemes_of t ++ lexemes (ends t) ts rest)

regroup : (a b c d : List ℕ) → (a ++ (b ++ c)) ++ d ≡ a ++ (b ++ (c ++ d))
regroup a b c d = simp append_assoc

lex-print_from : (after_value : Bool) (ts : List Token) (end : List ℕ) → ends_word end ≡ true → ArePrintable ts → lex between (print_from after_value ts ++ end) ≡ lexemes after_value ts (lex between end)
unfolding lex print_from ArePrintable
lex-print_from after_value [] end ended good = refl
lex-print_from after_value (t ∷ ts) end ended good =
    let rest = print_from (ends t) ts ++ end in
    ap (lex between) (regroup (separator after_value t) (token_text t) (print_from (ends t) ts) end)
    ∙ lex-separator (after_value && begins t) (token_text t ++ rest)
    ∙ ap (λ l. cond (after_value && begins t) (comma ∷ []) [] ++ l)
    (lex-token_text t rest good.0 (λ e. ap (λ b. ends_word (print_from b ts ++ end)) e ∙ value_ends ts end ended)
    ∙ ap (λ l. lexemes_of t ++ l) (lex-print_from (ends t) ts end ended good.1))

lex-newline : lex between (10 ∷ []) ≡ lex between []
unfolding lex
lex-newline = refl

pub tokens-line : (ts : List Token) → ArePrintable ts → tokens (print ts ++ 10 ∷ []) ≡ ts
tokens-line ts good =
    ap (punctuate fresh) (lex-print_from false ts (10 ∷ []) refl good ∙ ap (lexemes false ts) lex-newline ∙ sym (lex-print_from false ts [] refl good) ∙ ap (lex between) (append-nil (print ts)))
    ∙ tokens-print ts good
