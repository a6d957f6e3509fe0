pub mod MarginsTable
