-- The files of the rows preprocess to their tokens.
use Rattle.std.proofs.Common.{refl}
use Rattle.std.specs.Fmt.{digits}
use Rattle.std.specs.Str.{is_utf8, chars}
use lib.Utf8.{encode}
use Rattle.cs_base.specs.Paths.{normal_path_of, kept_of}
use Rattle.cs_base.specs.Units.{defines_text, fixed_lines}
use Rattle.analysis.specs.Below.lexer.FileText.{text_value, file_text}
use Rattle.analysis.specs.Below.lexer.GoneTable.{gone_of, marks_of}
use Rattle.analysis.specs.Below.lexer.LineTable.{line_starts}
use Rattle.analysis.specs.Below.lexer.Logical.{gone_length, logical_from, logical_of}
use Rattle.analysis.specs.Below.lexer.OneToken.{one_token_of}
use Rattle.analysis.specs.Below.lexer.Spelling.{kind_of, kind_in, is_punctuator_text}
use Rattle.analysis.specs.Below.lexer.Tokens.{front_length, token_piece, piece_of, found_from, found_of, tokens_of, firsts_of, open_comment_of}
use Rattle.analysis.specs.Below.line_shape.BadLines.{is_operand, cause_on}
use Rattle.analysis.specs.Below.line_shape.Directives.{directive_spelled}
use Rattle.analysis.specs.Below.line_shape.Items.{lines_of, directive_kind, pieces_of, items_from, items_of}
use Rattle.analysis.specs.Below.line_shape.MacroLine.{macro_of}
use Rattle.analysis.specs.Below.line_shape.Signs.{is_hash, is_paste, is_open, is_close, is_comma, is_ellipsis, is_va_args, is_unfit_name}
use Rattle.analysis.specs.Below.paste_origin.Pasting.{glue_of}
use Rattle.analysis.specs.Below.macro_body.Bodies.{chains_of, chains_in, parts_from}
use Rattle.analysis.specs.Below.macro_expand.Calls.{call_from}
use Rattle.analysis.specs.Below.macro_expand.Expansion.{expansion, whole, steps}
use Rattle.analysis.specs.Below.macro_body.Substitution.{result_of}
use Rattle.analysis.specs.Below.source_files.Files.{made_path, found_at, opened, files_opened, bytes_opened}
use Rattle.analysis.specs.Below.unit_steps.Texts.{reached_in}
use Rattle.analysis.specs.Below.include_tree.Walk.{walk, file_items}
use Rattle.meaning_rows.specs.Shared.{ArePreprocessed, two_names}
use Rattle.meaning_rows.specs.Rows.{IsPreprocessed, two_objects, pasted_names, hidden_typedef}

pub two_objects_preprocessed : IsPreprocessed two_objects
unfolding digits is_utf8 chars encode normal_path_of kept_of defines_text fixed_lines text_value file_text gone_of marks_of line_starts gone_length logical_from logical_of one_token_of kind_of kind_in is_punctuator_text front_length token_piece piece_of found_from found_of tokens_of firsts_of open_comment_of is_operand cause_on directive_spelled lines_of directive_kind pieces_of items_from items_of macro_of is_hash is_paste is_open is_close is_comma is_ellipsis is_va_args is_unfit_name glue_of chains_of chains_in parts_from call_from expansion whole steps result_of made_path found_at opened files_opened bytes_opened reached_in walk file_items
two_objects_preprocessed = record { toks = refl; file = refl }

pub pasted_names_preprocessed : IsPreprocessed pasted_names
unfolding digits is_utf8 chars encode normal_path_of kept_of defines_text fixed_lines text_value file_text gone_of marks_of line_starts gone_length logical_from logical_of one_token_of kind_of kind_in is_punctuator_text front_length token_piece piece_of found_from found_of tokens_of firsts_of open_comment_of is_operand cause_on directive_spelled lines_of directive_kind pieces_of items_from items_of macro_of is_hash is_paste is_open is_close is_comma is_ellipsis is_va_args is_unfit_name glue_of chains_of chains_in parts_from call_from expansion whole steps result_of made_path found_at opened files_opened bytes_opened reached_in walk file_items
pasted_names_preprocessed = record { toks = refl; file = refl }

pub hidden_typedef_preprocessed : IsPreprocessed hidden_typedef
unfolding digits is_utf8 chars encode normal_path_of kept_of defines_text fixed_lines text_value file_text gone_of marks_of line_starts gone_length logical_from logical_of one_token_of kind_of kind_in is_punctuator_text front_length token_piece piece_of found_from found_of tokens_of firsts_of open_comment_of is_operand cause_on directive_spelled lines_of directive_kind pieces_of items_from items_of macro_of is_hash is_paste is_open is_close is_comma is_ellipsis is_va_args is_unfit_name glue_of chains_of chains_in parts_from call_from expansion whole steps result_of made_path found_at opened files_opened bytes_opened reached_in walk file_items
hidden_typedef_preprocessed = record { toks = refl; file = refl }

pub two_names_preprocessed : ArePreprocessed two_names
unfolding digits is_utf8 chars encode normal_path_of kept_of defines_text fixed_lines text_value file_text gone_of marks_of line_starts gone_length logical_from logical_of one_token_of kind_of kind_in is_punctuator_text front_length token_piece piece_of found_from found_of tokens_of firsts_of open_comment_of is_operand cause_on directive_spelled lines_of directive_kind pieces_of items_from items_of macro_of is_hash is_paste is_open is_close is_comma is_ellipsis is_va_args is_unfit_name glue_of chains_of chains_in parts_from call_from expansion whole steps result_of made_path found_at opened files_opened bytes_opened reached_in walk file_items
two_names_preprocessed = record { one = refl; other = refl; file = refl }
