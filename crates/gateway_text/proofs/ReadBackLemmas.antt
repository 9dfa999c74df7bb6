-- Data of the right shape is read back from its text, and from the text and a newline.
use Rattle.std.proofs.Common.{◌≡◌, List, [], ◌∷◌, ◌++◌, Option, Some, option_and_then, refl, sym, ap, ◌∙◌, append-nil}
use Rattle.std.specs.Str.{IsUtf8}
use Rattle.std.proofs.lemmas.Str.{IsUtf8-append}
use Rattle.json.specs.Token.{Token}
use Rattle.json.specs.Lex.{tokens}
use Rattle.json.specs.Json.{Json, value, if_last}
use Rattle.json.specs.Tree.{json_tokens}
use Rattle.json.proofs.Printed.Tokens.{tokens-print}
use Rattle.json.proofs.Printed.Trees.{value-json_tokens, ArePrintable-json_tokens}
use Rattle.json.proofs.Printed.Utf8.{IsUtf8-are_ascii}
use Rattle.serde_json.specs.Data.{Data}
use Rattle.serde_json.specs.Read.{of_json, max_depth, read}
use Rattle.serde_json.specs.Written.{outline, compact_text}
use Rattle.serde_json.proofs.Texts.{print-outline}
use Rattle.etcd_model.specs.ReplyText.{stream_text}
use Rattle.gateway_text.proofs.NewlineLemmas.{tokens-line}
use Rattle.gateway_text.proofs.ShapeLemmas.{Fits, depth_of, numbers_of, utf8_text, outline_read}

abbrev whole : Option (Json × List Token) → Option Data
whole found = option_and_then of_json (option_and_then (λ p. if_last p.0 p.1) found)

read_tokens : (d : Data) (text : List _) → Fits d max_depth → tokens text ≡ json_tokens (outline d) → read text ≡ Some d
read_tokens d text fits same =
    ap whole (ap (value max_depth) (same ∙ sym (append-nil (json_tokens (outline d)))) ∙ value-json_tokens (outline d) max_depth [] (depth_of d max_depth fits)) ∙ outline_read d max_depth fits

pub read_text : (d : Data) → Fits d max_depth → read (compact_text d) ≡ Some d
read_text d fits =
    read_tokens d (compact_text d) fits (ap tokens (sym (print-outline d)) ∙ tokens-print (json_tokens (outline d)) (ArePrintable-json_tokens (outline d) (numbers_of d max_depth fits)))

pub read_line : (d : Data) → Fits d max_depth → read (stream_text d) ≡ Some d
read_line d fits =
    read_tokens d (stream_text d) fits
    (ap (λ text. tokens (text ++ 10 ∷ [])) (sym (print-outline d)) ∙ tokens-line (json_tokens (outline d)) (ArePrintable-json_tokens (outline d) (numbers_of d max_depth fits)))

pub utf8_line : (d : Data) → Fits d max_depth → IsUtf8 (stream_text d)
utf8_line d fits = IsUtf8-append (compact_text d) (10 ∷ []) (utf8_text d max_depth fits) (IsUtf8-are_ascii (10 ∷ []) refl)
