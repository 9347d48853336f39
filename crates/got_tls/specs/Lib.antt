pub mod GotList
