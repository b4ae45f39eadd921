pub mod GroupCases
