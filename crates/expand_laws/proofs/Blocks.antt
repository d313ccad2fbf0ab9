-- The table ends on IF, BLOCK, AND, LAMBDA and CATCH, where it ends on their parts.
use Rattle.std.proofs.Common.{ℕ, ◌+◌, List, [], ◌∷◌, refl, arith}
use Rattle.std.specs.Prelude.{codes}
use Rattle.std.specs.Option.{option_and_then}
use Rattle.t_base.specs.declared.basics.Span.{Span}
use Rattle.t_objects.specs.declared.words.Word.TheVariants as word
use Rattle.t_reader.specs.Grammar.{Value}
use Rattle.t_forms.specs.Data.{Datum, items_of, listed, a_nil, name_of, binders_of, names}
use Rattle.t_rows.specs.Rows.{node, lambda, catch_, inside, body, word_, twice, lambda_form, lambda_row, if_row, block_row, catch_row, and_row}
use Rattle.expand_laws.proofs.Reached.{HasBuiltinOps, HasMadeValues}
use Rattle.expand_laws.proofs.Worths.{worths}
use Rattle.expand_laws.proofs.Always.{Within, AllAlways, RowWithin, more, no_more_parts, another, node_of, refused, row_more, all_ops, word_form, formed, plain_parts}
use Rattle.expand_laws.proofs.Atoms.{nil_within, truth_within}

pub if_form : {right : Value → Type 0} {i j k : ℕ} (s : Span) (a b c : Datum) → Within right i a → Within right j b → Within right k c
    → Within right (1 + i + j + k) (listed s (word_ s (codes "if") ∷ a ∷ b ∷ c ∷ []))
if_form {right} {i} {j} {k} s a b c ha hb hc =
    word_form right (1 + i + j + k) s (codes "if") word.If (a ∷ b ∷ c ∷ []) refl (ha.ops, (hb.ops, (hc.ops, tt)))
    (λ scope. node_of tt (another ha (another hb (another hc no_more_parts))) (omega arith))

pub if_ends : {right : Value → Type 0} → HasMadeValues right → (s : Span) (ds : List Datum) → AllAlways right ds → RowWithin right (2 + worths ds) (if_row s ds)
if_ends m s [] h = refused (omega arith)
if_ends m s (a ∷ []) h = refused (omega arith)
if_ends m s (a ∷ b ∷ []) h = more (2 + worths (a ∷ b ∷ [])) (if_form s a b (a_nil s) h.0 h.1.0 (nil_within m s)) (omega arith)
if_ends m s (a ∷ b ∷ c ∷ []) h = node_of tt (another h.0 (another h.1.0 (another h.1.1.0 no_more_parts))) (omega arith)
if_ends m s (a ∷ b ∷ c ∷ d ∷ ds) h = refused (omega arith)

-- ---- blocks and bodies

pub block_ends : (right : Value → Type 0) (s : Span) (ds : List Datum) → AllAlways right ds → RowWithin right (1 + worths ds) (block_row s ds)
block_ends right s [] h = refused (omega arith)
block_ends right s (a ∷ []) h = more (1 + worths (a ∷ [])) h.0 (omega arith)
block_ends right s (a ∷ b ∷ ds) h = node_of tt (plain_parts right (a ∷ b ∷ ds) h) (omega arith)

pub block_form : (right : Value → Type 0) (s : Span) (ds : List Datum) → AllAlways right ds → Within right (1 + worths ds) (listed s (word_ s (codes "block") ∷ ds))
block_form right s ds h = word_form right (1 + worths ds) s (codes "block") word.Block ds refl (all_ops right s ds h) (λ scope. block_ends right s ds h)

pub body_within : (right : Value → Type 0) (s : Span) (ds : List Datum) → AllAlways right ds → Within right (1 + worths ds) (body s ds)
body_within right s [] h = block_form right s [] h
body_within right s (b ∷ []) h = more (1 + worths (b ∷ [])) h.0 (omega arith)
body_within right s (b ∷ c ∷ ds) h = block_form right s (b ∷ c ∷ ds) h

-- ---- AND

pub and_ends : {right : Value → Type 0} → HasMadeValues right → (s : Span) (ds : List Datum) → AllAlways right ds → RowWithin right (1 + worths ds) (and_row s ds)
and_ends m s [] h = more (1 + worths []) (truth_within m s) (omega arith)
and_ends m s (a ∷ []) h = more (1 + worths (a ∷ [])) h.0 (omega arith)
and_ends {right} m s (a ∷ b ∷ others) h =
    let rest : Within right (1 + worths (b ∷ others)) (listed s (word_ s (codes "and") ∷ b ∷ others)) =
    word_form right (1 + worths (b ∷ others)) s (codes "and") word.And (b ∷ others) refl (all_ops right s (b ∷ others) h.1) (λ scope. and_ends m s (b ∷ others) h.1) in
    more (1 + worths (a ∷ b ∷ others)) (if_form s a (listed s (word_ s (codes "and") ∷ b ∷ others)) (a_nil s) h.0 rest (nil_within m s)) (omega arith)

-- ---- LAMBDA and CATCH

-- with a body that makes so much
pub lambda_with : (right : Value → Type 0) (k : ℕ) (s : Span) (params b : Datum) (bs : List Datum) → Within right k (body s (b ∷ bs))
    → RowWithin right (1 + k) (lambda_row s (params ∷ b ∷ bs))
lambda_with right k s params b bs h =
    formed right (1 + k) s (λ xs. node lambda (twice xs) (inside (names xs) (body s (b ∷ bs)) ∷ [])) (option_and_then binders_of (items_of params)) (omega arith)
    (λ xs e. node_of tt (another h no_more_parts) (omega arith))

pub lambda_form_with : (right : Value → Type 0) (k : ℕ) (s : Span) (params b : Datum) (bs : List Datum) → HasBuiltinOps params → HasBuiltinOps (listed s (b ∷ bs))
    → Within right k (body s (b ∷ bs)) → Within right (1 + k) (lambda_form s params (b ∷ bs))
lambda_form_with right k s params b bs ops bs_ops h =
    word_form right (1 + k) s (codes "lambda") word.Lambda (params ∷ b ∷ bs) refl (ops, bs_ops) (λ scope. lambda_with right k s params b bs h)

pub lambda_ends : (right : Value → Type 0) (s : Span) (params : Datum) (bs : List Datum) → AllAlways right bs → RowWithin right (2 + worths bs) (lambda_row s (params ∷ bs))
lambda_ends right s params [] h = refused (omega arith)
lambda_ends right s params (b ∷ bs) h =
    row_more right (1 + (1 + worths (b ∷ bs))) (2 + worths (b ∷ bs)) (lambda_row s (params ∷ b ∷ bs))
    (lambda_with right (1 + worths (b ∷ bs)) s params b bs (body_within right s (b ∷ bs) h)) (omega arith)

pub lambda_within : (right : Value → Type 0) (s : Span) (params : Datum) (bs : List Datum) → HasBuiltinOps params → AllAlways right bs
    → Within right (2 + worths bs) (lambda_form s params bs)
lambda_within right s params bs ops h =
    word_form right (2 + worths bs) s (codes "lambda") word.Lambda (params ∷ bs) refl (ops, all_ops right s bs h) (λ scope. lambda_ends right s params bs h)

pub catch_ends : (right : Value → Type 0) (s : Span) (j : Datum) (bs : List Datum) → AllAlways right bs → RowWithin right (2 + worths bs) (catch_row s (j ∷ bs))
catch_ends right s j [] h = refused (omega arith)
catch_ends right s j (b ∷ bs) h =
    formed right (2 + worths (b ∷ bs)) s (λ n. node catch_ [] (inside (n ∷ []) (body s (b ∷ bs)) ∷ [])) (name_of j) (omega arith)
    (λ n e. node_of tt (another (body_within right s (b ∷ bs) h) no_more_parts) (omega arith))
