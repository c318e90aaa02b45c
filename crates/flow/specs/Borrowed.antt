-- The tables that a flow borrows, as lists.
use Rattle.flow.specs.Tables.{Tables, tables_of}
use Rattle.flow.specs.declared.table_flow.tables.Tables.{Tables as Borrowed}

-- what each of the four holds
abbrev pub lists_in : Borrowed → Tables
lists_in t = tables_of t.labels.now t.starts.now t.moves.now t.bounds.now
